-- `decoder::trail::note_one` writes its address behind those before it, or leaves the trail. Assumes nothing.
use Rattle.decoder.proofs.Trails.{addresses, capped_below, capped_next, capped_end}
use Rattle.rules.proofs.Parts.{again}
use native.Mathlib.Omega.{arith}
use Prim.Native.Nat.{◌+◌}
use Rattle.decoder.proofs.trail.note_one.Goals as goal

pub returns-then-i-count : goal.returns-then-i-count
returns-then-i-count c old room e =
    let a = c.args in
    let h = c.if-i-count.true in
    rw (capped_next a.i a.count h)
    (again (addresses a.reads a.count (omega arith)) a.i old _ _ h room
    (rw (capped_below a.i a.count h) at e) c.note_read.ensures).0

pub returns-else-i-count : goal.returns-else-i-count
returns-else-i-count c old room e =
    let a = c.args in
    let h = c.if-i-count.false in
    rw (capped_end (a.i + 1) a.count (omega arith)) (rw (capped_end a.i a.count h) at e)
