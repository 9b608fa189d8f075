-- `reach::rows::rows_reason` asks the first address, and then all rows in one of two ways.
use Rattle.std.proofs.Common.{◌<◌, ap, ◌∙◌}
use Rattle.rules.specs.Reach.{reach_row, reach_plain, first_reason}
use Rattle.reach.proofs.Joined.{from_first, none_yet, first_found, reason_search}
use Rattle.reach.proofs.Axes.{row_bytes_some, rows_some}
use Rattle.reach.proofs.Spans.{places_some}
use Rattle.reach.proofs.Asked.{at_once}
use Rattle.reach.proofs.rows.rows_reason.Goals.{After-row}
use Rattle.reach.proofs.rows.rows_reason.Goals as goal

-- row 0 has a byte
some : (c : After-row) → 0 < c.row.result.bytes
some c = rw c.row.ensures.value (row_bytes_some _)

pub place_reason-at_once-requires : goal.place_reason-at_once-requires
place_reason-at_once-requires c =
    let byte = some (goal.at.place_reason-at_once-requires c).After-row in
    (byte, places_some c.row.result 0 byte)

pub returns-then-at_once-ne0 : goal.returns-then-at_once-ne0
unfolding reach_plain
returns-then-at_once-ne0 c =
    let row = c.row in
    let byte = some (goal.at.returns-then-at_once-ne0 c).After-row in
    let reason = c.place_reason-at_once in
    rw (← c.of-rows.ensures)
    (first_found (reason_search _) _ 0 _ (rows_some _) (none_yet (reason_search _) _) _
    (at_once _ row.result byte _ reason.ensures c.if-at_once-ne0.true ∙ rw row.ensures.result_value) c.if-at_once-ne0.true)

pub returns-then-rows-le8 : goal.returns-then-rows-le8
unfolding reach_plain
returns-then-rows-le8 c = rw (← c.of-rows.ensures, ← c.count-count.ensures.0) c.short_rows.ensures

pub returns : goal.returns
unfolding reach_plain
returns c =
    rw (← c.of-rows.ensures, ← c.count-count.ensures.0) (c.some_rows.ensures ∙ ap (first_reason _) (from_first _ (reach_row _ _)))
