-- `reach::rows::span_reason` goes from word to word.
use Rattle.std.proofs.Common.{◌≡◌, sym, ◌∙◌, arith}
use Rattle.reach.proofs.Joined.{none_all, none_more, first_found, reason_search}
use Rattle.reach.proofs.Asked.{blank_clear}
use Rattle.reach.proofs.Spans.{reached_words}
use Rattle.reach.proofs.rows.span_reason.Goals as goal

pub loop-w-init : goal.loop-w-init
loop-w-init c =
    let a = c.args in
    let b = c.blank_words-blank.ensures in
    none_all (reason_search _) _ _ (λ w h. blank_clear _ a.span c.fits-reasons w (b.1 w h))

pub returns-then-reason-ne0 : goal.returns-then-reason-ne0
returns-then-reason-ne0 c =
    rw reached_words
    (first_found (reason_search _) _ c.loop-w.w _ (omega arith) c.loop-w.invariant _ c.word_reason-reason.ensures c.if-reason-ne0.true)

pub loop-w-preserved : goal.loop-w-preserved
loop-w-preserved c = none_more (reason_search _) _ _ c.loop-w.invariant (sym c.word_reason-reason.ensures ∙ c.if-reason-ne0.false)

pub returns : goal.returns
returns c =
    let end : c.loop-w.w ≡ c.words-w-end.result = omega arith in
    rw (reached_words, ← c.words-w-end.ensures.value, ← end) (sym c.loop-w.invariant)
