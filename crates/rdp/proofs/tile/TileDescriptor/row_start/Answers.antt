-- `rdp::tile::TileDescriptor::row_start` is the rule's product, which fits: 255 times eight times a number of 32 bits.
-- Assumes nothing.
use Prim.Native.Nat.{ℕ, ◌*◌, ◌≤◌}
use native.Mathlib.Nat.{mul-le-mul}
use native.Mathlib.Omega.{arith}
use mir.Syntax.{w64}
use mir.Val.{Fits}
use Rattle.rdp.proofs.tile.TileDescriptor.row_start.Goals as goal

-- Any row up to 1,024 fits. The bound does not name the row, so a wrong row is refused at the contract, not here.
fits : (row stride : ℕ) → row ≤ 1024 → stride ≤ 34359738360 → Fits w64 (row * stride)
fits row stride few long =
    let below : row * stride ≤ 1024 * 34359738360 = mul-le-mul few long in
    omega arith

pub overflow_mul-result : goal.overflow_mul-result
overflow_mul-result c = let long : c.bytes-stride.result.0 ≤ 34359738360 = omega (arith, c.bytes-stride.ensures) in
    fits _ _ (omega arith) long

pub returns : goal.returns
returns c = rw c.bytes-stride.ensures
