-- What the theorem "What goes in comes out" (document 02, item 11) asks of a tile, and how many words its rows take.
use Rattle.std.specs.Prelude.{◌≡◌, true, cond, ℕ, ◌+◌, ◌-◌, ◌*◌, ◌/◌, ◌≤◌, eqb}
use Rattle.rules.specs.Tile.{Tile}
use Rattle.rules.specs.Linear.{linear_pair}
use Rattle.rules.specs.Sampling.{is_rgba32}
use Rattle.rules.specs.Load.{word_columns}

-- "as many words a row as the width needs"
abbrev pub words_for : ℕ → ℕ → ℕ
words_for siz width = (width + (word_columns siz - 1)) / word_columns siz

abbrev pub row_words : Tile → ℕ
row_words t = words_for t.siz t.width

-- "The fit is width at most 16, 8 or 4 times line for siz 0, 1 and 2 or 3."
abbrev pub line_texels : ℕ → ℕ
line_texels siz = cond (eqb siz 0) 16 (cond (eqb siz 1) 8 4)

-- "tmem_addr + height·line at most 512, or 256 for (0,3)"
abbrev pub lines_in : ℕ → ℕ → ℕ
lines_in fmt siz = cond (is_rgba32 fmt siz) 256 512

-- what the theorem asks of a tile
pub record Fits (t : Tile) : Type 0 where
  -- "an accepted pair of mode 0 other than (2,3)"
  pub pair : linear_pair t.fmt t.siz ≡ true
  -- "height at most 256"
  pub height_in : t.height ≤ 256
  -- "rows that fit the line"
  pub row_fits : t.width ≤ line_texels t.siz * t.line
  -- "all lines inside the bank"
  pub lines_inside : t.tmem_addr + t.height * t.line ≤ lines_in t.fmt t.siz
