-- `reach::rows::short_rows` passes the rows whose words have nothing, and goes from four rows to the next four.
use Rattle.std.proofs.Common.{◌≡◌, ◌+◌, ◌*◌, ◌-◌, min, sym, ◌∙◌, subst, arith}
use Rattle.rules.specs.Base.{tab, concat}
use Rattle.rules.specs.Reach.{reach_row, first_reason}
use Rattle.rdp.specs.View.{tile_of}
use Rattle.reach.specs.declared.span.Span.{Span}
use Rattle.reach.specs.Span.{BlankFours}
use Rattle.reach.proofs.Joined.{none_all, none-further, found_further, reason_search}
use Rattle.reach.proofs.Short.{fours-blank}
use Rattle.reach.proofs.rows.short_rows.Goals.{After-four_rows-reason}
use Rattle.reach.proofs.rows.short_rows.Goals as goal

pub loop-i-init : goal.loop-i-init
loop-i-init c =
    let a = c.args in
    let p = c.requires in
    let t = tile_of a.rows.asked.tile in
    let b = c.blank_fours-blank in
    none_all (reason_search _) _ _
    (fours-blank a.reasons.now t a.rows.asked.tlut (omega (arith, a.rows.value, p.0)) c.fits-reasons b.result _
    (omega arith)
    (subst (λ (s : Span). BlankFours a.reasons.now s t.line b.result) c.row.ensures.value (rw (← c.line.ensures.0) b.ensures.1)))

-- the rows before these four have no reason
before-these : (c : After-four_rows-reason) → let a = c.args in
    first_reason a.reasons.now (concat (tab (4 * c.loop-i.i) (reach_row (tile_of a.rows.asked.tile) a.rows.asked.tlut))) ≡ 0
before-these c =
    let whole : min (4 * c.loop-i.i) c.args.count ≡ 4 * c.loop-i.i = omega arith in
    rw (← whole) c.loop-i.invariant

pub returns-then-reason-ne0 : goal.returns-then-reason-ne0
returns-then-reason-ne0 c =
    let none = before-these (goal.at.returns-then-reason-ne0 c).After-four_rows-reason in
    found_further (reason_search _) _ (4 * c.loop-i.i) _ _ (omega arith) none _ c.four_rows-reason.ensures c.if-reason-ne0.true

pub loop-i-preserved : goal.loop-i-preserved
loop-i-preserved c =
    let i = c.loop-i.i in
    let rows = c.args.count in
    let none = before-these (goal.at.loop-i-preserved c).After-four_rows-reason in
    let more : min (4 * (i + 1)) rows ≡ 4 * i + (min (4 * i + 4) rows - 4 * i) = omega arith in
    rw more (none-further (reason_search _) _ (4 * i) _ none (sym c.four_rows-reason.ensures ∙ c.if-reason-ne0.false))
