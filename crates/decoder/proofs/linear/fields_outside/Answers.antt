-- `decoder::linear::fields_outside` is the rule's test of the five fields. Assumes nothing.
use Rattle.decoder.proofs.linear.fields_outside.Goals as goal

pub returns : goal.returns
returns c = rw c.sides_outside.ensures
