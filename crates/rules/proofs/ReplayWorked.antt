-- The replay worked holds, every row of the table: antt computes both sides.
use lib.Dec.{T}
use Rattle.rules.specs.Base.{tab_from, tab, concat, mem, any, all, same, distinct, stamped, stamps}
use Rattle.rules.specs.Texdec.{accepted_direct, accepted, format_of, ia8_table}
use Rattle.rules.specs.Sampling.{flag}
use Rattle.rules.specs.Load.{list4, split_stores, whole_stores, word_stores, block_stores, tile_row, tile_stores, hardware_stores}
use Rattle.rules.specs.Load.{entry_stores, entry_row, row_stores, tlut_stores, stored, written, reasoned}
use Rattle.rules.specs.Reading.{trail, prepend, and_then, up_to}
use Rattle.rules.specs.Picture.{direct, paletted, texel, plain_row, plain, lookup_row, lookup, visible_picture}
use Rattle.rules.specs.Key.{kept_count}
use Rattle.rules.specs.Refusal.{first, settle, call_or}
use Rattle.rules.specs.Lister.{record_tile, low_digits, reversed, decimal, line_text}
use Rattle.rules.specs.Replay.{stores_in, outside_in, record_tests, count_of, left, tested, outcome, in_file, replayed, lines, texts}
use Rattle.rules.specs.Replay.{replay_text}
use Rattle.rules.specs.Worked.{all_same}
use Rattle.rules.specs.ReplayWorked.{replay_table}

pub replays : T (all_same replay_table)
unfolding replay_table tab_from tab concat mem any all same distinct stamped stamps accepted_direct accepted format_of ia8_table flag list4
    split_stores whole_stores word_stores block_stores tile_row tile_stores hardware_stores entry_stores entry_row row_stores tlut_stores
    stored
    written reasoned trail prepend and_then up_to direct paletted texel plain_row plain lookup_row lookup visible_picture kept_count first
    settle call_or record_tile low_digits reversed decimal line_text stores_in outside_in record_tests count_of left tested outcome in_file
    replayed lines texts replay_text
replays = tt
