-- `reach::reach::mark_rows` marks row after row.
use Rattle.std.proofs.Common.{◌≡◌, sym, arith}
use Rattle.rules.specs.Reach.{reach_plain}
use Rattle.reach.proofs.Joined.{marks_none, marks-more}
use Rattle.reach.proofs.reach.mark_rows.Goals as goal

pub loop-y-init : goal.loop-y-init
loop-y-init c = sym (marks_none _ _)

pub loop-y-preserved : goal.loop-y-preserved
loop-y-preserved c = marks-more _ _ _ _ _ c.loop-y.invariant (rw c.row.ensures.result_value at c.mark_span.ensures)

pub returns : goal.returns
unfolding reach_plain
returns c =
    let end : c.loop-y.y ≡ c.count-y-end.result = omega arith in
    rw (c.loop-y.invariant, end, c.count-y-end.ensures.0, c.of-rows.ensures)
