-- The sides worked hold, every row of the table: antt computes both sides.
use lib.Dec.{T}
use Rattle.rules.specs.Base.{tab_from, tab, mem, any, all, same, distinct}
use Rattle.rules.specs.Texdec.{accepted_direct, accepted, format_of, ia8_table}
use Rattle.rules.specs.Sampling.{flag, extent_width, extent_height, texels}
use Rattle.rules.specs.Reading.{trail, prepend, and_then, up_to}
use Rattle.rules.specs.Picture.{direct, paletted, texel, plain_row, plain, lookup_row, lookup, visible_picture}
use Rattle.rules.specs.Key.{kept_count}
use Rattle.rules.specs.Refusal.{first, settle, call}
use Rattle.rules.specs.Calls.{sampling_call}
use Rattle.rules.specs.Lister.{line_to}
use Rattle.rules.specs.Worked.{all_same}
use Rattle.rules.specs.SidesWorked.{side_table}

pub sides : T (all_same side_table)
unfolding side_table tab_from tab mem any all same distinct accepted_direct accepted format_of ia8_table flag extent_width extent_height
    texels
    trail prepend and_then up_to direct paletted texel plain_row plain lookup_row lookup visible_picture kept_count first settle call
    sampling_call line_to
sides = tt
