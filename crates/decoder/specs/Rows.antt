-- The plain picture and the lookup as one: rows of texels, each at its place.
use Rattle.std.specs.Prelude.{Bool, true, false, cond, ◌&&◌, List, [], ◌∷◌, ℕ, ◌+◌, ◌*◌, ◌/◌, ◌%◌, eqb, ltb, get_or}
use Rattle.rules.specs.Base.{odd}
use Rattle.rules.specs.Reading.{Reading, up_to, encoded}
use Rattle.rules.specs.Tile.{Tile}
use Rattle.rules.specs.Texdec.{tlut}
use Rattle.rules.specs.Picture.{texel, row_start}
use Rattle.rdp.specs.View.{tile_of}
use Rattle.decoder.specs.declared.row.Row.{Row}
use Rattle.decoder.specs.declared.plan.Plan.{Plan}

-- the halves of a byte that a texel takes in its row
abbrev pub scale_of : Tile → ℕ → ℕ
scale_of t mode = cond (eqb t.fmt 1 && tlut mode) 2 (cond (eqb t.siz 0) 1 (cond (eqb t.siz 1) 2 4))

-- where the texels of a row stand, as `Row` says of its own
pub record Placing : Type 0 where
  pub odd : Bool
  pub start : ℕ
  pub scale : ℕ
  pub first_x : ℕ
  pub x_step : ℕ

abbrev pub placing : Row → Placing
placing r = record { odd = r.odd; start = r.start; scale = r.scale; first_x = r.first_x; x_step = r.x_step }

-- row y
abbrev pub row_at : Bool → Tile → ℕ → ℕ → Placing
row_at true t mode y = record { odd = odd (y / 2); start = 0; scale = 2; first_x = y % 2; x_step = 0 }
row_at false t mode y = record { odd = odd y; start = row_start t y; scale = scale_of t mode; first_x = 0; x_step = 1 }

-- where texel i of a row stands
abbrev pub rel_in : Placing → ℕ → ℕ
rel_in r i = r.start + i * r.scale / 2

abbrev pub x_in : Placing → ℕ → ℕ
x_in r i = r.first_x + i * r.x_step

-- texel i of a row, so many of them, and so many rows
unfoldable pub row_texel : Tile → ℕ → ℕ → Placing → ℕ → Reading
row_texel t mode lane r i = texel t mode lane r.odd (rel_in r i) (x_in r i)

unfoldable pub row_of : Tile → ℕ → ℕ → ℕ → Placing → Reading
row_of t mode lane width r = up_to width (row_texel t mode lane r)

unfoldable pub rows_of : Bool → Tile → ℕ → ℕ → ℕ → ℕ → Reading
rows_of lookup t mode lane width rows = up_to rows (λ y. row_of t mode lane width (row_at lookup t mode y))

-- the first four of a list
abbrev pub four : List ℕ → List ℕ
four l = get_or l 0 0 ∷ get_or l 1 0 ∷ get_or l 2 0 ∷ get_or l 3 0 ∷ []

-- what a trail receives of a list of addresses: all of it, or nothing where no trail is asked for
abbrev pub told : Bool → List ℕ → List ℕ
told observe l = cond observe (encoded l) []

-- texel i of a row, a row, and all rows of a plan
abbrev pub one_texel : Plan → Placing → ℕ → Reading
one_texel p r i = row_texel (tile_of p.picture.tile) p.picture.tlut p.picture.lane r i

abbrev pub one_row : Plan → Placing → Reading
one_row p r = row_of (tile_of p.picture.tile) p.picture.tlut p.picture.lane p.width r

abbrev pub all_rows : Plan → Reading
all_rows p = rows_of p.lookup (tile_of p.picture.tile) p.picture.tlut p.picture.lane p.width p.rows

-- the first i of a list, but no more than so many
abbrev pub capped : ℕ → ℕ → ℕ
capped i count = cond (ltb i count) i count
