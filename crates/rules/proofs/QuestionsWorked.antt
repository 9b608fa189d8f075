-- The questions worked hold, every row of the table: antt computes both sides.
use lib.Dec.{T}
use Rattle.rules.specs.Base.{tab_from, tab, concat, any, all, same, number_at, is_written}
use Rattle.rules.specs.Sampling.{flag}
use Rattle.rules.specs.Reach.{row_bytes, trailing_zeros, row_period, reach_rows, doubled, reach_at, reach_row, reach_plain, reach_whole}
use Rattle.rules.specs.Reach.{reach, has_load, palette_order, first_reason, rejection}
use Rattle.rules.specs.Worked.{all_same}
use Rattle.rules.specs.QuestionsWorked.{question_table}

pub questions : T (all_same question_table)
unfolding question_table tab_from tab concat any all same number_at is_written flag row_bytes trailing_zeros row_period reach_rows doubled
    reach_at reach_row reach_plain reach_whole reach has_load palette_order first_reason rejection
questions = tt
