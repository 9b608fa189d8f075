-- The xor of odd rows moves an address by four at most.
use mathlib.Core.Bool.{Bool, true, false}
use Prim.Native.Nat.{ℕ, ◌+◌, ◌≤◌}
use native.Mathlib.Omega.{arith}
use lib.Bits.{xor_add_and}
use Rattle.rules.specs.Picture.{swap_odd}

pub swap_le : (odd : Bool) (rel : ℕ) → swap_odd odd rel ≤ rel + 4
swap_le true rel = omega (arith, xor_add_and rel 4)
swap_le false rel = omega arith
