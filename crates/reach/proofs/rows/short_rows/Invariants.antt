-- `reach::rows::short_rows` passes the rows whose words have nothing, and goes from four rows to the next four: the rows before have no
-- reason.
use Rattle.std.proofs.Common.{◌≡◌, ◌*◌, min}
use Rattle.rules.specs.Base.{tab, concat}
use Rattle.rules.specs.Reach.{reach_row, first_reason}
use Rattle.rdp.specs.View.{tile_of}
use Rattle.reach.proofs.rows.short_rows.Given as goal

abbrev pub invariant-loop-i : goal.invariant-loop-i
invariant-loop-i l =
    first_reason l.reasons (concat (tab (min (4 * l.i) l.count) (reach_row (tile_of l.rows.asked.tile) l.rows.asked.tlut))) ≡ 0
