-- `decoder::linear::is_linear` is the rule's pair. Assumes nothing.
use Rattle.decoder.proofs.linear.is_linear.Goals as goal

pub returns : goal.returns
returns c = rw c.validate_tlut.ensures
