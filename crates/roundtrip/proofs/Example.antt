-- Tiles that meet the theorem's conditions: 16 by 256 texels of I8, which fill the bank; and (0,3) up to the last word of each half.
use mathlib.Core.Path.{◌≡◌, refl}
use mathlib.Core.List.{List, [], ◌∷◌}
use Prim.Native.Nat.{ℕ}
use native.Mathlib.Omega.{arith}
use lib.ListN.{replicate}
use Rattle.rules.specs.Base.{tab, tab_from, concat, any}
use Rattle.rules.specs.Tile.{Tile, tile_from}
use Rattle.rules.specs.Texdec.{accepted, accepted_direct, format_of}
use Rattle.rules.specs.Reading.{given, and_then, prepend, up_to}
use Rattle.rules.specs.Load.{load_tile, stored, tile_stores, tile_row, word_stores, whole_stores, split_stores, list4}
use Rattle.rules.specs.Picture.{plain, plain_row, texel, direct}
use Rattle.rules.specs.Linear.{linear, linear_row, linear_texel}
use Rattle.roundtrip.specs.Fits.{row_words, Fits}

abbrev tile : ℕ → ℕ → ℕ → ℕ → ℕ → ℕ → Tile
tile fmt siz line tmem width height = tile_from fmt siz 0 0 0 0 0 line tmem width height

fits_i8 : Fits (tile 4 1 2 0 16 256)
unfolding accepted accepted_direct any
fits_i8 = record { pair = refl; height_in = omega arith; row_fits = omega arith; lines_inside = omega arith }

fits_rgba32 : Fits (tile 0 3 1 254 4 2)
unfolding accepted accepted_direct any
fits_rgba32 = record { pair = refl; height_in = omega arith; row_fits = omega arith; lines_inside = omega arith }

-- both sides computed: rows 3 bytes apart, the second one cut short by the source's end
abbrev small : Tile
small = tile 4 1 1 0 4 2

computed : given (plain small 0 0) (stored (1 ∷ 2 ∷ 3 ∷ 4 ∷ 5 ∷ []) (tile_stores (load_tile small) 1 2 (row_words small) 3)
    (replicate 4096 9))
    ≡ 1 ∷ 1 ∷ 1 ∷ 1 ∷ 2 ∷ 2 ∷ 2 ∷ 2 ∷ 3 ∷ 3 ∷ 3 ∷ 3 ∷ 4 ∷ 4 ∷ 4 ∷ 4 ∷ 4 ∷ 4 ∷ 4 ∷ 4 ∷ 5 ∷ 5 ∷ 5 ∷ 5 ∷ 0 ∷ 0 ∷ 0 ∷ 0 ∷ 0 ∷ 0 ∷ 0 ∷ 0 ∷ []
unfolding given and_then prepend up_to plain plain_row texel direct format_of stored tile_stores tile_row word_stores whole_stores
    split_stores list4
    tab tab_from concat
computed = refl

computed_linear : given (linear small 3) (1 ∷ 2 ∷ 3 ∷ 4 ∷ 5 ∷ [])
    ≡ 1 ∷ 1 ∷ 1 ∷ 1 ∷ 2 ∷ 2 ∷ 2 ∷ 2 ∷ 3 ∷ 3 ∷ 3 ∷ 3 ∷ 4 ∷ 4 ∷ 4 ∷ 4 ∷ 4 ∷ 4 ∷ 4 ∷ 4 ∷ 5 ∷ 5 ∷ 5 ∷ 5 ∷ 0 ∷ 0 ∷ 0 ∷ 0 ∷ 0 ∷ 0 ∷ 0 ∷ 0 ∷ []
unfolding given and_then prepend up_to linear linear_row linear_texel format_of
computed_linear = refl
