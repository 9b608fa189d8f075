-- The linear decodings worked hold, every row of the table: antt computes both sides.
use lib.Dec.{T}
use Rattle.rules.specs.Base.{tab_from, tab, concat, any, all, same, over}
use Rattle.rules.specs.Texdec.{accepted_direct, accepted, format_of, ia8_table}
use Rattle.rules.specs.Reading.{given, trail, prepend, and_then, up_to}
use Rattle.rules.specs.Linear.{linear_texel, linear_row, linear}
use Rattle.rules.specs.Refusal.{first, settle, call}
use Rattle.rules.specs.Calls.{linear_call}
use Rattle.rules.specs.Worked.{all_same}
use Rattle.rules.specs.LinearWorked.{linear_table}

pub linear_decodings : T (all_same linear_table)
unfolding linear_table tab_from tab concat any all same over accepted_direct accepted format_of ia8_table given trail prepend and_then
    up_to
    linear_texel linear_row linear first settle call linear_call
linear_decodings = tt
