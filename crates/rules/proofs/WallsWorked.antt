-- The walls worked hold, every row of the table: antt computes both sides.
use lib.Dec.{T}
use Rattle.rules.specs.Base.{tab_from, tab, concat, mem, any, all, same, distinct}
use Rattle.rules.specs.Texdec.{accepted_direct, accepted, format_of, ia8_table}
use Rattle.rules.specs.Sampling.{flag, texels, visible_texels}
use Rattle.rules.specs.Reading.{trail, prepend, and_then, up_to}
use Rattle.rules.specs.Picture.{direct, paletted, texel, plain_row, plain, lookup_row, lookup, picture, visible_picture}
use Rattle.rules.specs.Key.{kept, key_of, key, kept_count}
use Rattle.rules.specs.Refusal.{first, settle, call}
use Rattle.rules.specs.Lister.{record_tile, line_to, record_line_to, low_digits, reversed, decimal, line_text, listing_to}
use Rattle.rules.specs.Worked.{all_same}
use Rattle.rules.specs.WallsWorked.{wall_table}

pub walls : T (all_same wall_table)
unfolding wall_table tab_from tab concat mem any all same distinct accepted_direct accepted format_of ia8_table flag texels visible_texels
    trail prepend and_then up_to direct paletted texel plain_row plain lookup_row lookup picture visible_picture kept key_of key kept_count
    first settle call record_tile line_to record_line_to low_digits reversed decimal line_text listing_to
walls = tt
