-- How far a texel of a plain picture stands from the tile's base.
use mathlib.Core.Bool.{Bool, true, false, cond, ◌&&◌}
use Prim.Native.Nat.{ℕ, ◌*◌, ◌/◌, ◌%◌, ◌≤◌}
use native.Mathlib.Omega.{arith}
use native.Mathlib.Nat.{mul-le-mul}
use lib.Dec.{eqb}
use Rattle.rules.specs.Tile.{Tile}
use Rattle.rules.specs.Texdec.{tlut}
use Rattle.rules.specs.Picture.{column, row_start}

pub column-le : (t : Tile) (mode x : ℕ) → column t mode x ≤ 2 * x
column-le t mode x = go (eqb t.fmt 1 && tlut mode) (eqb t.siz 0) (eqb t.siz 1)
  where
    go : (a b c : Bool) → cond a x (cond b (x / 2) (cond c x (2 * x))) ≤ 2 * x
    go true b c = omega arith
    go false true c = omega arith
    go false false true = omega arith
    go false false false = omega arith

pub row_start-le : (t : Tile) (y : ℕ) → t.line ≤ 511 → row_start t y ≤ 1042440
row_start-le t y h =
    let few : y % 256 ≤ 255 = omega arith in
    let long : 8 * t.line ≤ 4088 = omega arith in
    mul-le-mul few long
