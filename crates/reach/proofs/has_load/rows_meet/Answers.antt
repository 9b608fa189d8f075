-- `reach::has_load::rows_meet` searches row after row.
use Rattle.std.proofs.Common.{◌≡◌, true, sym, ◌∙◌, arith}
use mathlib.Core.Bool.{true≢false}
use Rattle.rules.specs.Base.{any, is_written}
use Rattle.rules.specs.Reach.{reach_row, reach_plain}
use Rattle.rdp.specs.View.{tile_of}
use Rattle.reach.proofs.Joined.{none_yet, none_more, first_found, any_search}
use Rattle.reach.proofs.has_load.rows_meet.Goals.{After-span_meets}
use Rattle.reach.proofs.has_load.rows_meet.Goals as goal

pub loop-y-init : goal.loop-y-init
loop-y-init c = none_yet (any_search _) _

-- what the test says, of the rule's row
found_in : (c : After-span_meets) → let a = c.of-rows.result.asked in
    c.span_meets.result ≡ any (is_written c.args.written.now) (reach_row (tile_of a.tile) a.tlut c.loop-y.y)
found_in c = c.span_meets.ensures ∙ rw c.row.ensures.result_value

pub returns-then-span_meets : goal.returns-then-span_meets
unfolding reach_plain
returns-then-span_meets c =
    let here = found_in (goal.at.returns-then-span_meets c).After-span_meets in
    rw (← c.of-rows.ensures, ← c.count-y-end.ensures.0)
    (first_found (any_search _) _ c.loop-y.y _ (omega arith) c.loop-y.invariant true (sym c.if-span_meets.true ∙ here) true≢false)

pub loop-y-preserved : goal.loop-y-preserved
loop-y-preserved c =
    let here = found_in (goal.at.loop-y-preserved c).After-span_meets in
    none_more (any_search _) _ _ c.loop-y.invariant (sym here ∙ c.if-span_meets.false)

pub returns : goal.returns
unfolding reach_plain
returns c =
    let end : c.loop-y.y ≡ c.count-y-end.result = omega arith in
    rw (← c.of-rows.ensures, ← c.count-y-end.ensures.0, ← end) (sym c.loop-y.invariant)
