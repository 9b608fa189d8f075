-- `decoder::row::Row::rel` stays small, as the row's bounds do. Assumes nothing.
use mathlib.Core.Path.{refl}
use native.Mathlib.Omega.{arith}
use native.Mathlib.Nat.{mul-le-mul}
use Prim.Native.Nat.{◌*◌, ◌≤◌}
use Rattle.decoder.proofs.row.Row.rel.Goals.{Start}
use Rattle.decoder.proofs.row.Row.rel.Goals as goal

shift : (c : Start) → c.args.i * c.args.self.scale ≤ 16380
shift c = let h : c.args.i ≤ 4095 = omega arith in mul-le-mul h c.args.self.scale_bound

pub overflow_mul-result : goal.overflow_mul-result
overflow_mul-result c = omega (arith, shift (goal.at.overflow_mul-result c).Start)

pub overflow_add-result : goal.overflow_add-result
overflow_add-result c = omega (arith, shift (goal.at.overflow_add-result c).Start)

pub returns : goal.returns
returns c = record {
  value = refl;
  upper_bound = omega (arith, shift (goal.at.returns c).Start);
}
