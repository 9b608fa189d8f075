-- `decoder::row::Row::x` stays small, as the row's bounds do. Assumes nothing.
use native.Mathlib.Omega.{arith}
use native.Mathlib.Nat.{mul-le-mul}
use Prim.Native.Nat.{◌*◌, ◌≤◌}
use Rattle.decoder.proofs.row.Row.x.Goals.{Start}
use Rattle.decoder.proofs.row.Row.x.Goals as goal

shift : (c : Start) → c.args.i * c.args.self.x_step ≤ 4095
shift c = let h : c.args.i ≤ 4095 = omega arith in mul-le-mul h c.args.self.step_bound

pub overflow_mul-result : goal.overflow_mul-result
overflow_mul-result c = omega (arith, shift (goal.at.overflow_mul-result c).Start)

pub overflow_add-result : goal.overflow_add-result
overflow_add-result c = omega (arith, shift (goal.at.overflow_add-result c).Start)
