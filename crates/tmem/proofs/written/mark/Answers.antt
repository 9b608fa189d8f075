-- `tmem::written::mark` stores the four bytes of both numbers. Assumes nothing.
use denote.Ref.{at_last}
use mathlib.Core.Path.{◌≡◌, ap}
use Prim.Native.Nat.{◌+◌, ◌-◌, ◌*◌}
use native.Mathlib.Omega.{arith}
use Rattle.tmem.proofs.Halfwords.{both_back}
use Rattle.tmem.proofs.written.mark.Goals as goal

pub returns : goal.returns
returns c =
    let w = c.args.w.now in
    let at = c.args.at.0 in
    let four : 2 * at + 4 - 2 * at ≡ 4 = omega arith in
    rw (four, c.copy_from_slice.ensures.after, c.marks.ensures)
    (ap (λ l. record { map = at_last w.map l }) (both_back c.args.number w.map.now at (omega arith)))
