-- `tmem::asked::Asked::write` carries out the load of its case, whose numbers are in their ranges. Assumes nothing.
use Rattle.tmem.proofs.asked.Asked.write.Goals as goal

pub invariant_of-load : goal.invariant_of-load
invariant_of-load c = record { image_in = c.requires.image_siz_bound; in_range = rw c.in-Block.is at c.requires.self_value }

pub returns-in-Block : goal.returns-in-Block
returns-in-Block c = rw c.in-Block.is c.write.ensures
