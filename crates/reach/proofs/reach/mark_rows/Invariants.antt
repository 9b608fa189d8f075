-- `reach::reach::mark_rows` marks row after row: the map has the marks of the rows below y.
use Rattle.std.proofs.Common.{◌≡◌}
use Rattle.rules.specs.Base.{tab, concat, marks}
use Rattle.rules.specs.Reach.{reach_row}
use Rattle.rdp.specs.View.{tile_of}
use Rattle.reach.proofs.reach.mark_rows.Given as goal

abbrev pub invariant-loop-y : goal.invariant-loop-y
invariant-loop-y l = l.map ≡ marks l.initial.map (concat (tab l.y (reach_row (tile_of l.rows.asked.tile) l.rows.asked.tlut)))
