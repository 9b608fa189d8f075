-- `decoder::trail::note_read` stores the address from the front on. Assumes nothing.
use Rattle.rules.proofs.Over.{over_sets}
use Rattle.rules.specs.Reading.{encoded}
use native.Mathlib.Omega.{arith}
use Rattle.decoder.proofs.trail.note_read.Goals as goal

pub returns : goal.returns
unfolding encoded
returns c = over_sets _ _ (omega arith)
