-- The worked examples hold, every row of the table: antt computes both sides, part by part.
use Rattle.rules.specs.Base.{tab_from, tab, concat, mem, any, all, same, distinct}
use Rattle.rules.specs.Texdec.{accepted_direct, accepted, format_of, ia8_table}
use Rattle.rules.specs.Sampling.{flag, texels}
use Rattle.rules.specs.Load.{list4, split_stores, whole_stores, word_stores, block_stores, hardware_stores, entry_stores, entry_row}
use Rattle.rules.specs.Load.{row_stores, tlut_stores, stored}
use Rattle.rules.specs.Reading.{trail, prepend, and_then, up_to}
use Rattle.rules.specs.Picture.{direct, paletted, texel, plain_row, plain, lookup_row, lookup, picture, visible_picture}
use Rattle.rules.specs.Key.{kept, key_of, key, kept_count}
use Rattle.rules.specs.Refusal.{first, settle, call}
use Rattle.rules.specs.Lister.{record_tile, line_to, record_line_to, low_digits, reversed, decimal, line_text, listing_to}
use Rattle.rules.specs.Worked.{all_same, table, Holds, p1, p2, p3, p4, p5, p6, p7, p8, p9, p10, p11, p12, slip, listed}

pub worked : Holds table
unfolding table Holds p1 p2 p3 p4 p5 p6 p7 p8 p9 p10 p11 p12 slip listed tab_from tab concat mem any all same distinct accepted_direct
    accepted format_of ia8_table flag texels list4 split_stores whole_stores word_stores block_stores hardware_stores entry_stores
    entry_row row_stores tlut_stores stored trail prepend and_then up_to direct paletted texel plain_row plain lookup_row lookup picture
    visible_picture kept key_of key kept_count first settle call record_tile line_to record_line_to low_digits reversed decimal line_text
    listing_to
worked = (tt, (tt, (tt, (tt, (tt, (tt, (tt, (tt, (tt, (tt, (tt, (tt, (tt, (tt, tt))))))))))))))
