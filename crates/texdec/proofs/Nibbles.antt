-- A nibble of a byte is below 16.
use mathlib.Core.Bool.{Bool, true, false, cond}
use Prim.Native.Nat.{ℕ, ◌/◌, ◌%◌, ◌<◌}
use native.Mathlib.Omega.{arith}
use lib.Dec.{eqb}
use Rattle.rules.specs.Texdec.{nibble}

pub nibble_small : (x b : ℕ) → b < 256 → nibble x b < 16
nibble_small x b h = go (eqb (x % 2) 0)
  where
    go : (t : Bool) → cond t (b / 16) (b % 16) < 16
    go true = omega arith
    go false = omega arith
