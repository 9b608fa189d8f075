-- The checks worked hold, every row of the table: antt computes both sides.
use lib.Dec.{T}
use Rattle.rules.specs.Base.{tab_from, tab, mem, any, all, same}
use Rattle.rules.specs.Texdec.{accepted_direct, accepted, format_of, ia8_table}
use Rattle.rules.specs.Sampling.{flag}
use Rattle.rules.specs.Reading.{trail, prepend, and_then, up_to}
use Rattle.rules.specs.Picture.{direct, paletted, texel, plain_row, plain, lookup_row, lookup, picture, visible_picture}
use Rattle.rules.specs.Key.{kept, key_of, key}
use Rattle.rules.specs.Check.{lowest_wrong, wrong_kind, checked}
use Rattle.rules.specs.Refusal.{first, settle, call}
use Rattle.rules.specs.Calls.{check_call}
use Rattle.rules.specs.Worked.{all_same}
use Rattle.rules.specs.CheckWorked.{check_table}

pub checks : T (all_same check_table)
unfolding check_table tab_from tab mem any all same accepted_direct accepted format_of ia8_table flag trail prepend and_then up_to direct
    paletted texel plain_row plain lookup_row lookup picture visible_picture kept key_of key lowest_wrong wrong_kind checked first settle
    call
    check_call
checks = tt
