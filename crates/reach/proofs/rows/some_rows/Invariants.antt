-- `reach::rows::some_rows` goes from row to row: the rows before row y have no reason.
use Rattle.std.proofs.Common.{◌≡◌, ◌+◌, ◌-◌}
use Rattle.rules.specs.Base.{tab, concat}
use Rattle.rules.specs.Reach.{reach_row, first_reason}
use Rattle.rdp.specs.View.{tile_of}
use Rattle.reach.proofs.rows.some_rows.Given as goal

abbrev pub invariant-loop-y : goal.invariant-loop-y
invariant-loop-y g l =
    let row = reach_row (tile_of l.rows.asked.tile) l.rows.asked.tlut in
    first_reason l.reasons (concat (tab (l.y - l.from) (λ k. row (l.from + k)))) ≡ 0
