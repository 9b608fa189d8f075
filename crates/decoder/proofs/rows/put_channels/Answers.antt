-- `decoder::rows::put_channels` stores from the front on. Assumes nothing.
use Rattle.rules.proofs.Over.{over_sets}
use lib.ListN.{length-set}
use native.Mathlib.Omega.{arith}
use Rattle.decoder.proofs.rows.put_channels.Goals as goal

pub bounds-out-1 : goal.bounds-out-1
bounds-out-1 c = simp length-set (omega arith)

pub bounds-out-2 : goal.bounds-out-2
bounds-out-2 c = simp length-set (omega arith)

pub returns : goal.returns
returns c = over_sets _ _ (omega arith)
