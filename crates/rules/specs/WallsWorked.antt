-- Document 02's item 4: walls that repeat, worked. `Rattle.rules.proofs.WallsWorked` proves every row.
use Rattle.std.specs.Prelude.{List, [], ◌∷◌, map, ℕ, replicate}
use Rattle.rules.specs.Tile.{Tile, tile_from, bank_size}
use Rattle.rules.specs.Key.{key, kept_count}
use Rattle.rules.specs.Lister.{listing}
use Rattle.rules.specs.Worked.{Case, ◌gives◌, fresh, bytes_at}

-- walls of I8 that repeat after two texels: four columns and a row, with cms, and a column of four rows, with cmt
abbrev pub wall : ℕ → Tile
wall cms = tile_from 4 1 0 cms 0 1 0 1 0 4 1

abbrev column : ℕ → Tile
column cmt = tile_from 4 1 0 0 cmt 0 1 1 0 1 4

-- a record of the wall, with a zero bank
abbrev listed_wall : List ℕ
listed_wall = 4 ∷ 1 ∷ 0 ∷ 0 ∷ 0 ∷ 0 ∷ 1 ∷ 0 ∷ 0 ∷ 1 ∷ 0 ∷ 0 ∷ 0 ∷ 4 ∷ 0 ∷ 1 ∷ fresh

unfoldable pub wall_table : List Case
wall_table =
    -- a wall keeps what is shown of it, mirrored too; clamped it does not repeat
    (bytes_at 0 4 (key (wall 0) 0 0 (replicate bank_size 7)) gives 7 ∷ 7 ∷ 0 ∷ 0 ∷ [])
    ∷ (map (λ cms. kept_count (wall cms) 0 0 fresh) (0 ∷ 1 ∷ 2 ∷ 3 ∷ []) gives 2 ∷ 2 ∷ 4 ∷ 4 ∷ [])
    ∷ (map (λ cmt. kept_count (column cmt) 0 0 fresh) (0 ∷ 1 ∷ 2 ∷ 3 ∷ []) gives 2 ∷ 2 ∷ 4 ∷ 4 ∷ [])
    -- a wall's line is "0 0 2 4": "Kept counts in the lister follow; texel counts don't."
    ∷ (listing listed_wall gives 48 ∷ 32 ∷ 48 ∷ 32 ∷ 50 ∷ 32 ∷ 52 ∷ 10 ∷ [])
    ∷ []
