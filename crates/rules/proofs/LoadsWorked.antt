-- The loads worked hold, every row of each table: antt computes both sides.
use lib.Dec.{T}
use Rattle.rules.specs.Base.{tab_from, tab, concat, all, same, how_many, stamped, stamps}
use Rattle.rules.specs.Load.{list4, split_stores, whole_stores, word_stores, block_stores, tile_row, tile_stores, hardware_stores}
use Rattle.rules.specs.Load.{entry_stores, entry_row, row_stores, tlut_stores, stored, written, reasoned, made_up}
use Rattle.rules.specs.Refusal.{first, settle, call_or}
use Rattle.rules.specs.Calls.{block_call, tile_call, tlut_hardware_call, tlut_rows_call}
use Rattle.rules.specs.Worked.{all_same}
use Rattle.rules.specs.LoadsWorked.{made_up_table, number_table, reason_table, call_table}

pub made_up_lem : T (all_same made_up_table)
unfolding made_up_table tab_from tab concat all same how_many list4 split_stores whole_stores word_stores block_stores hardware_stores
    entry_stores
    entry_row row_stores tlut_stores made_up
made_up_lem = tt

pub numbers : T (all_same number_table)
unfolding number_table tab_from tab concat all same how_many stamped stamps list4 split_stores whole_stores word_stores block_stores stored
    written reasoned made_up first settle call_or block_call
numbers = tt

pub reasons : T (all_same reason_table)
unfolding reason_table tab_from tab concat all same how_many stamped stamps list4 split_stores whole_stores word_stores block_stores stored
    written reasoned made_up first settle call_or block_call
reasons = tt

pub calls : T (all_same call_table)
unfolding call_table tab_from tab concat all same how_many stamped stamps list4 split_stores whole_stores word_stores tile_row tile_stores
    hardware_stores entry_stores entry_row row_stores tlut_stores stored written reasoned made_up first settle call_or tile_call
    tlut_hardware_call tlut_rows_call
calls = tt
