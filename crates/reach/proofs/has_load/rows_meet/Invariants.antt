-- `reach::has_load::rows_meet` searches row after row: nothing was found in the rows below y.
use Rattle.std.proofs.Common.{◌≡◌, false}
use Rattle.rules.specs.Base.{tab, concat, any, is_written}
use Rattle.rules.specs.Reach.{reach_row}
use Rattle.rdp.specs.View.{tile_of}
use Rattle.reach.proofs.has_load.rows_meet.Given as goal

abbrev pub invariant-loop-y : goal.invariant-loop-y
invariant-loop-y l = any (is_written l.written) (concat (tab l.y (reach_row (tile_of l.rows.asked.tile) l.rows.asked.tlut))) ≡ false
