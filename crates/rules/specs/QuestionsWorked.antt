-- Document 02's items 7 and 8: questions of written records and of reasons, worked. `Rattle.rules.proofs.QuestionsWorked` proves every
-- row.
use Rattle.std.specs.Prelude.{List, [], ◌∷◌, ◌++◌, map, ℕ, ◌-◌, length, get_or, set, replicate}
use Rattle.rules.specs.Base.{one, number_at}
use Rattle.rules.specs.Tile.{Tile, tile_from, fresh_reasons}
use Rattle.rules.specs.Reach.{has_load, palette_order, rejection}
use Rattle.rules.specs.Worked.{Case, ◌gives◌, tile, ci8_one}

-- whether a tile of one texel at the bank's start has a load, by a record with these four bytes and no others
abbrev loaded_by : List ℕ → ℕ
loaded_by l = one (has_load (tile 4 1 0 0 1 1) 0 (l ++ replicate 8188 0))

-- the answer of a question where two addresses have the reasons 5 and 6
abbrev asking : Tile → ℕ → ℕ → ℕ → ℕ
asking t mode five six = rejection t mode (set (set fresh_reasons five 5) six 6)

-- I8, two rows of a word: the halves of the second change places
abbrev two_rows : Tile
two_rows = tile 4 1 1 0 8 2

-- CI4 of palette 3
abbrev third_palette : Tile
third_palette = tile_from 2 0 3 0 0 0 0 1 0 1 1

-- a list's length, its first and its last number
abbrev ends_of : List ℕ → List ℕ
ends_of l = length l ∷ get_or l 0 0 ∷ get_or l (length l - 1) 0 ∷ []

unfoldable pub question_table : List Case
question_table =
    -- "An address counts as written when its number is not 0": by either byte, and its own alone
    (map loaded_by ((0 ∷ 0 ∷ 0 ∷ 0 ∷ []) ∷ (0 ∷ 1 ∷ 0 ∷ 0 ∷ []) ∷ (1 ∷ 0 ∷ 0 ∷ 0 ∷ []) ∷ (0 ∷ 0 ∷ 1 ∷ 1 ∷ []) ∷ [])
    gives 0 ∷ 1 ∷ 1 ∷ 0 ∷ [])
    ∷ (number_at (1 ∷ 2 ∷ 3 ∷ 4 ∷ []) 1 ∷ [] gives 772 ∷ [])
    -- the first in reach order: 12 comes before 8, in mode 0 of (0,3) 2,048 before 1; other addresses are not asked
    ∷ (asking two_rows 0 8 12 ∷ asking two_rows 0 8 7 ∷ asking two_rows 0 16 2048 ∷ [] gives 6 ∷ 6 ∷ 0 ∷ [])
    ∷ (asking (tile 0 3 0 0 1 1) 0 1 2048 ∷ asking (tile 0 3 0 0 1 1) 0 2049 3 ∷ [] gives 6 ∷ 5 ∷ [])
    -- reach before palette, which modes 2 and 3 alone ask
    ∷ (map (λ mode. asking ci8_one mode 2048 0) (1 ∷ 2 ∷ 3 ∷ []) gives 6 ∷ 6 ∷ 6 ∷ [])
    ∷ (map (λ mode. asking ci8_one mode 2049 2050) (0 ∷ 1 ∷ 2 ∷ 3 ∷ []) gives 0 ∷ 0 ∷ 5 ∷ 5 ∷ [])
    -- "the 128 bytes of the tile's palette for siz 0, else the upper half"
    ∷ (asking third_palette 2 2559 2432 ∷ asking third_palette 2 2431 2433 ∷ [] gives 6 ∷ 6 ∷ [])
    ∷ (ends_of (palette_order third_palette 2) gives 128 ∷ 2432 ∷ 2559 ∷ [])
    ∷ (ends_of (palette_order ci8_one 3) gives 2048 ∷ 2048 ∷ 4095 ∷ [])
    ∷ []
