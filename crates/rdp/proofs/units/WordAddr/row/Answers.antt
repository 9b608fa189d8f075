-- `rdp::units::WordAddr::row` adds the rows' words: a product of two numbers of 32 bits, and a third, fit 64. Assumes nothing.
use Prim.Native.Nat.{◌*◌, ◌≤◌}
use native.Mathlib.Nat.{mul-le-mul}
use native.Mathlib.Omega.{arith}
use Rattle.rdp.proofs.units.WordAddr.row.Goals as goal

few : (c : goal.After-struct_known-2-1) → let a = c.args in a.row * a.line.0 ≤ 4294967295 * 4294967295
few c =
    let a = c.args in
    let row : a.row ≤ 4294967295 = omega arith in
    let line : a.line.0 ≤ 4294967295 = omega arith in
    mul-le-mul row line

pub overflow_mul-words : goal.overflow_mul-words
overflow_mul-words c = omega (arith, few c)

pub overflow_add-words : goal.overflow_add-words
overflow_add-words c = omega (arith, few c)
