-- Runs of words: bounds of a word's numbers, and the rules' lists of a block, a tile's row and a hardware TLUT as runs.
use mathlib.Core.Path.{◌≡◌, ap}
use mathlib.Core.List.{List}
use mathlib.Core.Bool.{false, Bool, true, cond}
use Prim.Native.Nat.{ℕ, ◌+◌, ◌*◌, ◌<◌, ◌≤◌, ◌/◌, ◌^◌}
use native.Mathlib.Nat.{mul-le-mul, zero-add, add-zero, mul-zero, mul_comm, div-le_self, div-le_of_le-mul}
use native.Mathlib.Omega.{arith}
use lib.ListN.{length}
use lib.Dec.{eqb, leb, leb→le}
use Rattle.rules.specs.Base.{tab, concat}
use Rattle.rules.specs.Load.{Store, LoadTile, image_tile, block_stores, tile_row}
use Rattle.rules.specs.Load.{entries, advance, steps, hardware_stores}
use Rattle.rules.proofs.Computed.{computed}
use Rattle.tmem.specs.declared.words.Run.{Run}
use Rattle.tmem.specs.Run.{Paced, image_run, run_stores}
use Rattle.tmem.proofs.Indices.{product_within}
use Rattle.tmem.proofs.Carry.{table-length}
use Rattle.tmem.proofs.Places.{word_length}

-- the products of word w of a run
pub record Reached (r : Run) (w : ℕ) : Type 0 where
  pub column : w * r.columns ≤ 2047 * 64
  pub turned : w * r.dxt ≤ 2047 * r.dxt
  pub moved : w * r.advance ≤ 2047 * 8

pub reached : (r : Run) (w : ℕ) → Paced r → w < 2048 → Reached r w
reached r w p h =
    let k : w ≤ 2047 = omega arith in
    record {
      column = mul-le-mul k p.columns_in;
      turned = product_within 2047 r.dxt w r.dxt k (omega arith);
      moved = mul-le-mul k p.advance_in;
    }

-- two tables whose entries are the same
same_lists : (n : ℕ) {f g : ℕ → List Store} → ((w : ℕ) → f w ≡ g w) → concat (tab n f) ≡ concat (tab n g)
same_lists n e = ap (λ h. concat (tab n h)) (λ i w. e w i)

-- "Block word w: s = w·(16 >> image size), t = w·dxt div 2,048, p = 8w."
pub block_is : (t : LoadTile) {u : LoadTile} (image dxt words : ℕ) → u ≡ image_tile image t
    → run_stores u (image_run image 0 dxt 0) words ≡ block_stores t image dxt words
unfolding run_stores block_stores
block_is t image dxt words e = same_lists words (λ w. rw (e, zero-add (w * dxt / 2048), zero-add (w * 8), mul_comm w 8))

-- "Tile: t is the row, p = row·stride + 8w."
pub row_is : (t : LoadTile) {u : LoadTile} (image words stride row : ℕ) → u ≡ image_tile image t
    → run_stores u (image_run image row 0 (row * stride)) words ≡ tile_row t image words stride row
unfolding run_stores tile_row
row_is t image words stride row e = same_lists words (λ w. rw (e, mul-zero w, add-zero row, mul_comm w 8))

-- an image's run has its numbers in their ranges
pub image_paced : (image row dxt place : ℕ) → row + dxt ≤ 4095 → place ≤ 1023 * 65535 → Paced (image_run image row dxt place)
image_paced image row dxt place h k =
    record { columns_in = omega (arith, div-le_self 16 (2 ^ image)); row_in = h; place_in = k; advance_in = omega arith }

-- the length of a row
pub row_length : (t : LoadTile) (image words stride row : ℕ) → length (tile_row t image words stride row) ≡ words * 8
unfolding tile_row
row_length t image words stride row = table-length _ 8 (λ w. word_length _ _ _ _) words

-- "one word load per step at t = 0, s = step·(64 >> image size)"
abbrev pub tlut_run : ℕ → Run
tlut_run image = record { columns = 64 / 2 ^ image; row = 0; dxt = 0; place = 0; advance = advance image; replicate = true }

pub tlut_is : (t : LoadTile) (image count : ℕ) → run_stores t (tlut_run image) (steps image count) ≡ hardware_stores t image count
unfolding run_stores hardware_stores
tlut_is t image count = same_lists (steps image count) (λ w. rw (mul-zero w, zero-add (w * advance image)))

pub tlut_paced : (image : ℕ) → Paced (tlut_run image)
tlut_paced image =
    record {
      columns_in = div-le_self 64 (2 ^ image);
      row_in = omega arith;
      place_in = omega arith;
      advance_in = go (eqb image 2);
    }
  where
    go : (b : Bool) → cond b 2 8 ≤ 8
    go true = omega arith
    go false = omega arith

-- a step covers an entry at least, so that there are no more steps than entries
pub step_covers : (image : ℕ) → image ≤ 3 → 1 ≤ entries image
step_covers image h = leb→le 1 _ (computed 4 (λ m. leb 1 (entries m)) tt image (omega arith))

pub covers_within : (image : ℕ) → image ≤ 3 → entries image ≤ 16
covers_within image h = leb→le _ 16 (computed 4 (λ m. leb (entries m) 16) tt image (omega arith))

pub steps_within : (image count : ℕ) → image ≤ 3 → count ≤ 1024 → steps image count ≤ 1024
steps_within image count h k =
    let e = entries image in
    let p : 1 ≤ e = step_covers image h in
    div-le_of_le-mul e (omega arith)
