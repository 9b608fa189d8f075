-- Document 02's item 12: "Raise width and height to 4,096. The stored record has room already, so old records read as they did and give
-- the same line. A lister from before this change refuses the new ones with 2." Of the limit alone: no side up to the old one is told
-- apart by the two, and a load takes no side.
use mathlib.Core.Path.{◌≡◌, refl, ap}
use mathlib.Core.Bool.{Bool, true, false, ◌||◌}
use mathlib.Core.List.{List, [], ◌∷◌, ◌++◌}
use Prim.Native.Nat.{ℕ, ◌/◌, ◌<◌, ◌≤◌}
use native.Mathlib.Omega.{arith}
use lib.Dec.{ltb}
use lib.ListN.{length}
use borrow.Author.Tests.{le-ltb}
use Rattle.rules.specs.Base.{concat}
use Rattle.rules.specs.Tile.{Tile, sized, side_limit, sides_above, sides_outside, load_fields_outside, tile_outside_to, tile_outside}
use Rattle.rules.specs.Load.{Reason}
use Rattle.rules.specs.Refusal.{first, settle, call}
use Rattle.rules.specs.Calls.{block_call, tile_call, tlut_hardware_call, tlut_rows_call}
use Rattle.rules.specs.Lister.{record_size, record_tile, record_at, tail, line_text, line_to, line_of, record_line_to, record_line}
use Rattle.rules.specs.Lister.{listing_to, listing}
use Rattle.rules.proofs.Tables.{tab-same}

-- document 01's "width and height 0..1,024"
abbrev pub old_limit : ℕ
old_limit = 1024

-- the sides were within it
pub record Old (t : Tile) : Type 0 where
  pub width : t.width ≤ old_limit
  pub height : t.height ≤ old_limit

-- of sides within it, none is above either limit: a picture's, and a tile's. Nothing else of a call asks for a limit of sides.
pub same-sides : (w h : ℕ) → w ≤ old_limit → h ≤ old_limit → sides_above old_limit w h ≡ sides_outside w h
same-sides w h p q = rw (le-ltb old_limit w p, le-ltb old_limit h q, le-ltb side_limit w (omega arith), le-ltb side_limit h (omega arith))

pub same_range : (t : Tile) → Old t → tile_outside_to old_limit t ≡ tile_outside t
same_range t o =
    rw (
      le-ltb old_limit t.width o.width,
      le-ltb old_limit t.height o.height,
      le-ltb side_limit t.width (omega (arith, o.width)),
      le-ltb side_limit t.height (omega (arith, o.height)),
    )

-- "old records read as they did and give the same line": a tile's, a record's, and all of a listing, a torn tail among them
pub old_outcome : (t : Tile) (mode : ℕ) (bank : List ℕ) → Old t → line_to old_limit t mode bank ≡ line_of t mode bank
unfolding line_to
old_outcome t mode bank o = rw (same_range t o)

pub old_line : (r : List ℕ) → Old (record_tile r) → record_line_to old_limit r ≡ record_line r
unfolding record_line_to
old_line r o = rw (old_outcome (record_tile r) _ _ o)

pub old_listing : (input : List ℕ) → ((i : ℕ) → i < length input / record_size → Old (record_tile (record_at input i)))
    → listing_to old_limit input ≡ listing input
unfolding listing_to
old_listing input o =
    ap (λ l. concat l ++ tail input)
    (tab-same (length input / record_size) _ _ (λ i h. ap line_text (old_line (record_at input i) (o i h))))

-- "A lister from before this change refuses the new ones with 2": whatever else the record has, since 2 is tested first
above : (a w h : Bool) → (w || h) ≡ true → (a || w || h) ≡ true
above true w h e = refl
above false w h e = e

pub new_outside : (limit : ℕ) (t : Tile) → sides_above limit t.width t.height ≡ true → tile_outside_to limit t ≡ true
new_outside limit t e =
    above (load_fields_outside t || ltb 15 t.palette || ltb 3 t.cms || ltb 3 t.cmt || ltb 15 t.masks || ltb 15 t.maskt)
    (ltb limit t.width) (ltb limit t.height) e

pub new_line : (limit : ℕ) (r : List ℕ) → sides_above limit (record_tile r).width (record_tile r).height ≡ true
    → record_line_to limit r ≡ 2 ∷ 0 ∷ 0 ∷ 0 ∷ []
unfolding record_line_to line_to call settle first
new_line limit r e = rw (new_outside limit (record_tile r) e)

-- "Of the tile a load takes fmt, siz, line and tmem_addr alone": whatever its sides, a load is the same
module _ (bank map reasons src : List ℕ) (t : Tile) (w h image dxt words rows stride count : ℕ) (why : Reason) (last : ℕ) where
  pub loads_take_no_side : (block_call bank map reasons src (sized t w h) image dxt words why last
      ≡ block_call bank map reasons src t image dxt words why last)
      × ((tile_call bank map reasons src (sized t w h) image rows words stride why last
      ≡ tile_call bank map reasons src t image rows words stride why last)
      × ((tlut_hardware_call bank map reasons src (sized t w h) image count rows stride why last
      ≡ tlut_hardware_call bank map reasons src t image count rows stride why last)
      × (tlut_rows_call bank map reasons src (sized t w h) image count rows stride why last
      ≡ tlut_rows_call bank map reasons src t image count rows stride why last)))
  unfolding block_call tile_call tlut_hardware_call tlut_rows_call
  loads_take_no_side = (refl, (refl, (refl, refl)))
