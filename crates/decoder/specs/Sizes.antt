-- How large the picture that is asked for is, the lookup or the plain one, and its trail.
use Rattle.std.specs.Prelude.{Bool, cond, ℕ, ◌*◌}
use Rattle.rules.specs.Tile.{Tile}
use Rattle.rules.specs.Sampling.{lookup_texels}
use Rattle.rules.specs.Calls.{plain_texels}
use Rattle.rules.specs.Picture.{reads_each}

-- its texels, and its rows and their width
abbrev pub texels_by : Bool → Tile → ℕ
texels_by looked t = cond looked lookup_texels (plain_texels t)

abbrev pub width_by : Bool → Tile → ℕ
width_by looked t = cond looked 4096 t.width

abbrev pub rows_by : Bool → Tile → ℕ
rows_by looked t = cond looked 4 t.height

-- the bytes of trail that a texel takes
abbrev pub trail_step : Bool → Tile → ℕ → ℕ
trail_step observe t mode = cond observe (2 * reads_each t mode) 0
