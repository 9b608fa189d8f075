-- The splits worked hold, every row of the table: antt computes both sides.
use lib.Dec.{T}
use Rattle.rules.specs.Base.{tab, tab_from, all, same, concat, how_many}
use Rattle.rules.specs.Refusal.{first, settle, call}
use Rattle.rules.specs.Split.{body_at, first_from, first_of, groups_before, group_of, side, sides, split_call}
use Rattle.rules.specs.Worked.{all_same}
use Rattle.rules.specs.SplitWorked.{split_table}

pub splits : T (all_same split_table)
unfolding split_table tab tab_from all same concat how_many first settle call body_at first_from first_of groups_before group_of side sides
    split_call
splits = tt
