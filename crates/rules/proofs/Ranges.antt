-- A tile that is not refused has every field inside its range.
use mathlib.Core.Path.{◌≡◌, refl, sym}
use mathlib.Core.Bool.{Bool, true, false, ◌&&◌, ◌||◌, true≢false}
use mathlib.Core.List.{List, [], ◌∷◌}
use lib.Dec.{ltb}
use borrow.Author.Tests.{ltb-false}
use Rattle.rules.specs.Tile.{Tile, side_limit, load_fields_outside, tile_outside, InRange}

-- one of the tests holds
abbrev some : Bool → List Bool → Bool
some a [] = a
some a (b ∷ l) = some (a || b) l

-- none of them holds
abbrev None : List Bool → Type 0
None [] = Unit {0}
None (a ∷ l) = (a ≡ false) × None l

-- of an either that does not hold, neither does
pub neither : (a b : Bool) → (a || b) ≡ false → (a ≡ false) × (b ≡ false)
neither true b h = absurd (true≢false h)
neither false b h = (refl, h)

-- of a both that holds, each does
pub both : (a b : Bool) → (a && b) ≡ true → (a ≡ true) × (b ≡ true)
both true b h = (refl, h)
both false b h = absurd (true≢false (sym h))

none : (a : Bool) (l : List Bool) → some a l ≡ false → None (a ∷ l)
none a [] h = (h, tt)
none a (b ∷ l) h =
    let p = none (a || b) l h in
    let q = neither a b p.0 in
    (q.0, (q.1, p.1))

-- the tests of the fields that a load takes, and of the others
load_tests : (t : Tile) → load_fields_outside t ≡ false
    → None (ltb 7 t.fmt ∷ ltb 3 t.siz ∷ ltb 511 t.line ∷ ltb 511 t.tmem_addr ∷ [])
load_tests t h = none (ltb 7 t.fmt) (ltb 3 t.siz ∷ ltb 511 t.line ∷ ltb 511 t.tmem_addr ∷ []) h

other_tests : (t : Tile) → tile_outside t ≡ false
    → None (load_fields_outside t ∷ ltb 15 t.palette ∷ ltb 3 t.cms ∷ ltb 3 t.cmt ∷ ltb 15 t.masks ∷ ltb 15 t.maskt
    ∷ ltb side_limit t.width ∷ ltb side_limit t.height ∷ [])
other_tests t h =
    none (load_fields_outside t)
    (ltb 15 t.palette ∷ ltb 3 t.cms ∷ ltb 3 t.cmt ∷ ltb 15 t.masks ∷ ltb 15 t.maskt
    ∷ ltb side_limit t.width ∷ ltb side_limit t.height ∷ [])
    h

pub in_range : (t : Tile) → tile_outside t ≡ false → InRange t
in_range t h =
    let o = other_tests t h in
    let l = load_tests t o.0 in
    record {
      fmt = ltb-false _ _ l.0;
      siz = ltb-false _ _ l.1.0;
      palette = ltb-false _ _ o.1.0;
      cms = ltb-false _ _ o.1.1.0;
      cmt = ltb-false _ _ o.1.1.1.0;
      masks = ltb-false _ _ o.1.1.1.1.0;
      maskt = ltb-false _ _ o.1.1.1.1.1.0;
      line = ltb-false _ _ l.1.1.0;
      tmem_addr = ltb-false _ _ l.1.1.1.0;
      width = ltb-false _ _ o.1.1.1.1.1.1.0;
      height = ltb-false _ _ o.1.1.1.1.1.1.1.0;
    }
