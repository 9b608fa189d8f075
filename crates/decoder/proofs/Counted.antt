-- The picture that is asked for is its rows, and its reads are its texels times the reads of its pair: 3 in modes 2 and 3,
-- else 1, 2 or 4.
use mathlib.Core.Path.{◌≡◌, refl, ap, ◌∙◌}
use mathlib.Core.Bool.{Bool, true, false, cond, ◌&&◌}
use mathlib.Core.List.{List}
use Prim.Native.Nat.{ℕ, zero, suc, ◌+◌, ◌*◌, ◌/◌, ◌%◌}
use native.Mathlib.Nat.{mul_comm, mul_left_comm}
use native.Mathlib.Omega.{arith}
use lib.Dec.{eqb}
use lib.ListN.{length}
use Rattle.rules.specs.Base.{odd}
use Rattle.rules.specs.Reading.{Reading, trail, up_to}
use Rattle.rules.specs.Tile.{Tile}
use Rattle.rules.specs.Texdec.{tlut}
use Rattle.rules.specs.Picture.{texel, row_start, column, reads_each, plain, plain_row, lookup, lookup_row}
use Rattle.rules.proofs.Readings.{trail-length}
use Rattle.decoder.specs.Rows.{scale_of, row_at, row_texel, row_of, rows_of}
use Rattle.decoder.specs.Asked.{reading_by}
use Rattle.decoder.specs.Sizes.{texels_by, width_by, rows_by}
use Rattle.decoder.proofs.Placed.{row_reads}

pub texels_by_lem : (looked : Bool) (t : Tile) → width_by looked t * rows_by looked t ≡ texels_by looked t
texels_by_lem true t = refl
texels_by_lem false t = refl

-- readings that are the same one by one are the same one after the other
same_rows : (n : ℕ) (f g : ℕ → Reading) → ((i : ℕ) → f i ≡ g i) → up_to n f ≡ up_to n g
unfolding up_to
same_rows zero f g e = refl
same_rows (suc n) f g e = rw (same_rows n f g e, e n)

column_scaled : (t : Tile) (mode x : ℕ) → x * scale_of t mode / 2 ≡ column t mode x
column_scaled t mode x = go (eqb t.fmt 1 && tlut mode) (eqb t.siz 0) (eqb t.siz 1)
  where
    go : (a b c : Bool) → x * cond a 2 (cond b 1 (cond c 2 4)) / 2 ≡ cond a x (cond b (x / 2) (cond c x (2 * x)))
    go true b c = omega arith
    go false true c = omega arith
    go false false true = omega arith
    go false false false = omega arith

module _ (t : Tile) (mode lane y i : ℕ) where
  lookup-texel : row_texel t mode lane (row_at true t mode y) i ≡ texel t mode lane (odd (y / 2)) i (y % 2)
  unfolding row_texel
  lookup-texel =
      let at : 0 + i * 2 / 2 ≡ i = omega arith in
      let x : y % 2 + i * 0 ≡ y % 2 = omega arith in
      rw (at, x)

  plain-texel : row_texel t mode lane (row_at false t mode y) i ≡ texel t mode lane (odd y) (row_start t y + column t mode i) i
  unfolding row_texel
  plain-texel = let x : 0 + i * 1 ≡ i = omega arith in rw (column_scaled t mode i, x)

pub reading_by_lem : (looked : Bool) (t : Tile) (mode lane : ℕ)
    → rows_of looked t mode lane (width_by looked t) (rows_by looked t) ≡ reading_by looked t mode lane
unfolding rows_of row_of lookup lookup_row plain plain_row
reading_by_lem true t mode lane = same_rows 4 _ _ (λ y. same_rows 4096 _ _ (λ i. lookup-texel t mode lane y i))
reading_by_lem false t mode lane = same_rows t.height _ _ (λ y. same_rows t.width _ _ (λ i. plain-texel t mode lane y i))

rows_count : (looked : Bool) (t : Tile) (mode lane : ℕ) (bank : List ℕ) (width rows : ℕ)
    → length (trail (rows_of looked t mode lane width rows) bank) ≡ reads_each t mode * (width * rows)
unfolding rows_of row_of
rows_count looked t mode lane bank width rows =
    trail-length (λ y. row_of t mode lane width (row_at looked t mode y)) bank (width * reads_each t mode) rows
    (λ y. trail-length (row_texel t mode lane (row_at looked t mode y)) bank (reads_each t mode) width
    (λ i. row_reads t mode lane (row_at looked t mode y) i bank))
    ∙ rw (mul_comm width (reads_each t mode))
    (mul_left_comm rows (reads_each t mode) width ∙ ap (λ n. reads_each t mode * n) (mul_comm rows width))

-- the reads of a picture
pub reads_count : (looked : Bool) (t : Tile) (mode lane : ℕ) (bank : List ℕ)
    → length (trail (reading_by looked t mode lane) bank) ≡ reads_each t mode * texels_by looked t
reads_count looked t mode lane bank =
    rw (← reading_by_lem looked t mode lane, ← texels_by_lem looked t)
    (rows_count looked t mode lane bank (width_by looked t) (rows_by looked t))
