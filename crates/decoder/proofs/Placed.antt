-- Laws of the rows: what a texel at its place gives and tells, and the bytes of a row.
use mathlib.Core.Path.{◌≡◌, ap, sym, ◌∙◌}
use mathlib.Core.Bool.{true}
use mathlib.Core.List.{List}
use Prim.Native.Nat.{ℕ, ◌*◌}
use native.Mathlib.Nat.{le_refl}
use native.Mathlib.Omega.{arith}
use lib.ListN.{length, take, length-take}
use Rattle.rules.specs.Reading.{Reading, given, trail, up_to}
use Rattle.rules.specs.Tile.{Tile}
use Rattle.rules.specs.Texdec.{step_knows}
use Rattle.rules.specs.Picture.{texel, reads_each}
use Rattle.rdp.specs.View.{tile_of}
use Rattle.decoder.specs.declared.plan.Plan.{Plan}
use Rattle.decoder.specs.declared.texel.Texel.{Texel}
use Rattle.decoder.specs.Steps.{Decodes}
use Rattle.decoder.specs.Rows.{Placing, four, rel_in, x_in, row_at, row_texel, row_of, one_texel, one_row, told}
use Rattle.decoder.specs.Sizes.{trail_step}
use Rattle.rules.proofs.Parts.{Parts, length_whole, given_parts}
use Rattle.decoder.proofs.Told.{told_parts, told-length}
use Rattle.rules.proofs.Formats.{texel-four}
use Rattle.decoder.proofs.Lengths.{texel_reads, four_is}

module _ (t : Tile) (mode lane : ℕ) (r : Placing) (i : ℕ) (bank : List ℕ) where
  row_four : step_knows mode t.fmt t.siz ≡ true → length (given (row_texel t mode lane r i) bank) ≡ 4
  unfolding row_texel
  row_four h = texel-four t mode lane r.odd (rel_in r i) (x_in r i) bank h

  pub row_reads : length (trail (row_texel t mode lane r i) bank) ≡ reads_each t mode
  unfolding row_texel
  row_reads = texel_reads t mode lane r.odd (rel_in r i) (x_in r i) bank

  module _ (tx : Texel) (rel x : ℕ) (er : rel ≡ rel_in r i) (ex : x ≡ x_in r i) (d : Decodes (texel t mode lane r.odd rel x) bank tx) where
    pub put-given : step_knows mode t.fmt t.siz ≡ true → four tx.channels ≡ given (row_texel t mode lane r i) bank
    unfolding row_texel
    put-given h = four_is tx.channels _ (rw (er, ex) at d.channels) (row_four h)

    pub put_reads : take tx.count tx.reads ≡ trail (row_texel t mode lane r i) bank
    unfolding row_texel
    put_reads = rw (er, ex) at d.reads

    pub put_count : tx.count ≡ reads_each t mode
    put_count = omega (arith, d.few, d.full, simp length-take at (ap length put_reads), row_reads)

-- A row of a plan as its texels: what they give, and what they tell the trail.
module _ (p : Plan) (bank : List ℕ) (r : Placing) (n : ℕ) where
  pub row_given : step_knows p.picture.tlut p.picture.tile.fmt p.picture.tile.siz ≡ true
      → Parts n (λ i. given (one_texel p r i) bank) (λ i. given (up_to i (one_texel p r)) bank) 4
  row_given h = given_parts (one_texel p r) bank n 4 (λ i. row_four _ _ _ r i bank h)

  pub row_told : p.step ≡ trail_step p.observe (tile_of p.picture.tile) p.picture.tlut
      → Parts n (λ i. told p.observe (trail (one_texel p r i) bank))
      (λ i. told p.observe (trail (up_to i (one_texel p r)) bank)) p.step
  row_told e =
      told_parts p.observe (one_texel p r) bank n p.step
      (λ i. told-length p.observe _ _ (row_reads _ _ p.picture.lane r i bank) ∙ sym e)

-- row y of a plan
abbrev pub row_by : Plan → ℕ → Reading
row_by p y = one_row p (row_at p.lookup (tile_of p.picture.tile) p.picture.tlut y)

-- And its rows one after the other.
module _ (p : Plan) (bank : List ℕ) (row : ℕ → Placing) (n : ℕ) where
  pub rows_given : step_knows p.picture.tlut p.picture.tile.fmt p.picture.tile.siz ≡ true
      → Parts n (λ y. given (one_row p (row y)) bank) (λ y. given (up_to y (λ k. one_row p (row k))) bank) (4 * p.width)
  unfolding row_of
  rows_given h =
      given_parts (λ y. one_row p (row y)) bank n (4 * p.width)
      (λ y. length_whole (row_given p bank (row y) p.width h) p.width (le_refl p.width))

  pub rows_told : p.step ≡ trail_step p.observe (tile_of p.picture.tile) p.picture.tlut
      → Parts n (λ y. told p.observe (trail (one_row p (row y)) bank))
      (λ y. told p.observe (trail (up_to y (λ k. one_row p (row k))) bank)) (p.step * p.width)
  unfolding row_of
  rows_told e =
      told_parts p.observe (λ y. one_row p (row y)) bank n (p.step * p.width)
      (λ y. length_whole (row_told p bank (row y) p.width e) p.width (le_refl p.width))
