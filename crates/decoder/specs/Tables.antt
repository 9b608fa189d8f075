-- The tables that the texels of modes 2 and 3 are taken from.
use Rattle.std.specs.Prelude.{◌≡◌, cond, List, ℕ, ◌+◌, ◌*◌, ◌<◌, eqb, length, get_or}
use Rattle.rules.specs.Reading.{given}
use Rattle.rules.specs.Tile.{Tile}
use Rattle.rules.specs.Texdec.{channels, rgba16_texel, ia16_texel}
use Rattle.rules.specs.Picture.{index, entry_at, entry_texel}

-- what the two bytes of an entry give in a mode, as one number
abbrev pub entry_format : ℕ → ℕ → List ℕ
entry_format mode = cond (eqb mode 2) rgba16_texel ia16_texel

-- the ready texel of two bytes, from a table of halves
abbrev pub half_sum : List ℕ → ℕ → ℕ → ℕ
half_sum halves hi lo = get_or halves hi 0 + get_or halves (256 + lo) 0

-- the entries that an index byte of a tile can stand for: where they begin, and how many they are
abbrev pub first_entry : Tile → ℕ
first_entry t = cond (eqb t.siz 0) (t.palette * 16) 0

abbrev pub entry_count : Tile → ℕ
entry_count t = cond (eqb t.siz 0) 16 256

-- what entry i of a lane gives
abbrev pub entry_gives : ℕ → ℕ → List ℕ → ℕ → List ℕ
entry_gives mode lane bank i = given (entry_texel mode (get_or bank (entry_at i lane) 0) (get_or bank (entry_at i lane + 1) 0)) bank

-- the texel of each entry that an index byte of the tile can stand for stands at its place
pub record EntryTable (t : Tile) (mode lane : ℕ) (bank table : List ℕ) : Type 0 where
  pub size : length table ≡ 256
  pub at : (x v : ℕ) → v < 256 → channels (get_or table (index t x v) 0) ≡ entry_gives mode lane bank (index t x v)
