-- A picture whose sides are within the limit.
use mathlib.Core.Path.{◌≡◌}
use mathlib.Core.Bool.{false}
use Prim.Native.Nat.{ℕ, ◌≤◌}
use lib.Dec.{ltb}
use borrow.Author.Tests.{ltb-false}
use Rattle.rules.specs.Tile.{side_limit, sides_outside}
use Rattle.rules.proofs.Ranges.{neither}

pub record Within (w h : ℕ) : Type 0 where
  pub width : w ≤ side_limit
  pub height : h ≤ side_limit

pub within : (w h : ℕ) → sides_outside w h ≡ false → Within w h
within w h e =
    let n = neither (ltb side_limit w) (ltb side_limit h) e in
    record { width = ltb-false side_limit w n.0; height = ltb-false side_limit h n.1 }
