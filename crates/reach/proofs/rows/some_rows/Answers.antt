-- `reach::rows::some_rows` goes from row to row.
use Rattle.std.proofs.Common.{◌≡◌, ◌+◌, ◌-◌, sym, ◌∙◌, arith}
use Rattle.rules.specs.Reach.{reach_row, first_reason}
use Rattle.rdp.specs.View.{tile_of}
use Rattle.reach.proofs.Joined.{none_yet, none_more, first_found, reason_search}
use Rattle.reach.proofs.rows.some_rows.Given.{Over}
use Rattle.reach.proofs.rows.some_rows.Goals.{After-row_reason-reason}
use Rattle.reach.proofs.rows.some_rows.Goals as goal

pub loop-y-init : goal.loop-y-init
loop-y-init g c =
    let f = c.args.from in
    let none : f - f ≡ 0 = omega arith in
    rw none (none_yet (reason_search _) _)

-- what is found, of the rule's row
found_in : (g : Over) (c : After-row_reason-reason g) → let a = c.args in
    c.row_reason-reason.result
    ≡ first_reason a.reasons.now (reach_row (tile_of a.rows.asked.tile) a.rows.asked.tlut (a.from + (c.loop-y.y - a.from)))
found_in g c =
    let at : c.args.from + (c.loop-y.y - c.args.from) ≡ c.loop-y.y = omega arith in
    c.row_reason-reason.ensures ∙ rw at

pub returns-then-reason-ne0 : goal.returns-then-reason-ne0
returns-then-reason-ne0 g c =
    let here = found_in g (goal.at.returns-then-reason-ne0 g c).After-row_reason-reason in
    first_found (reason_search _) _ (c.loop-y.y - c.args.from) _ (omega arith) c.loop-y.invariant _ here c.if-reason-ne0.true

pub loop-y-preserved : goal.loop-y-preserved
loop-y-preserved g c =
    let f = c.args.from in
    let here = found_in g (goal.at.loop-y-preserved g c).After-row_reason-reason in
    let more : c.loop-y.y + 1 - f ≡ c.loop-y.y - f + 1 = omega arith in
    rw more (none_more (reason_search _) _ _ c.loop-y.invariant (sym here ∙ c.if-reason-ne0.false))
