-- How far an axis and a row reach.
use mathlib.Core.Bool.{Bool, true, false, cond}
use Prim.Native.Nat.{ℕ, ◌+◌, ◌*◌, ◌/◌, ◌<◌, ◌≤◌, ◌^◌, min, max}
use native.Mathlib.Omega.{arith}
use native.Mathlib.Nat.{div-le_self}
use lib.Dec.{eqb}
use lib.Pow.{pow_pos}
use Rattle.rules.specs.Tile.{Tile, bank_size}
use Rattle.rules.specs.Reach.{trailing_zeros, extent, row_bytes, row_period, reach_rows}
use Rattle.rules.specs.Sampling.{repeats}

-- a row reaches the bank's bytes at most, and the addresses repeat after 4,096 rows at most
pub row_bytes-le : (t : Tile) → row_bytes t ≤ bank_size
unfolding row_bytes
row_bytes-le t = omega arith

pub rows_le : (t : Tile) → reach_rows t ≤ bank_size
unfolding reach_rows row_period
rows_le t = omega (arith, div-le_self bank_size (2 ^ trailing_zeros 12 (8 * t.line)))

-- and each reaches something
extent_some : (cm mask size : ℕ) → 0 < extent cm mask size
extent_some cm mask size = go (repeats cm mask)
  where
    go : (b : Bool) → 0 < cond b (2 ^ mask) (max size 1)
    go true = pow_pos mask
    go false = omega arith

pub row_bytes_some : (t : Tile) → 0 < row_bytes t
unfolding row_bytes
row_bytes_some t = go (eqb t.siz 0) (eqb t.siz 1)
  where
    wide : ℕ
    wide = extent t.cms t.masks t.width

    go : (a b : Bool) → 0 < min (cond a ((wide + 1) / 2) (cond b wide (2 * wide))) 4096
    go true b = omega (arith, extent_some t.cms t.masks t.width)
    go false true = omega (arith, extent_some t.cms t.masks t.width)
    go false false = omega (arith, extent_some t.cms t.masks t.width)

pub rows_some : (t : Tile) → 0 < reach_rows t
unfolding reach_rows row_period
rows_some t = omega (arith, extent_some t.cmt t.maskt t.height)
