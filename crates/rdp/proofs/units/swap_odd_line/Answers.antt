-- `rdp::units::swap_odd_line` is the rule's xor: with 4 times 1 on an odd row, else with 0. Assumes nothing.
use lib.Bits.{bit_xor, xor_zero_r}
use mir.Val.{bool_byte}
use native.Mathlib.Omega.{arith}
use Prim.Native.Nat.{ℕ, ◌*◌, ◌≤◌}
use mathlib.Core.Bool.{Bool, true, false}
use mathlib.Core.Path.{◌≡◌, refl}
use Rattle.rules.specs.Picture.{swap_odd}
use Rattle.rdp.proofs.units.swap_odd_line.Goals as goal

small : (b : Bool) → bool_byte b ≤ 1
small true = omega arith
small false = omega arith

swaps : (b : Bool) (a : ℕ) → bit_xor a (bool_byte b * 4) ≡ swap_odd b a
swaps true a = refl
swaps false a = xor_zero_r a

pub overflow_mul-result : goal.overflow_mul-result
overflow_mul-result c = omega (arith, small c.args.odd)

pub returns : goal.returns
returns c = swaps c.args.odd c.args.addr
