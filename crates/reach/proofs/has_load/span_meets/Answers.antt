-- `reach::has_load::span_meets` looks at word after word.
use Rattle.std.proofs.Common.{◌≡◌, true, sym, ◌∙◌, arith}
use mathlib.Core.Bool.{true≢false}
use Rattle.rules.specs.Base.{any, is_written}
use Rattle.reach.specs.Span.{word_reached}
use Rattle.reach.proofs.Joined.{none_yet, none_more, first_found, any_search}
use Rattle.reach.proofs.Spans.{any_word, reached_words}
use Rattle.reach.proofs.has_load.span_meets.Goals.{After-meets}
use Rattle.reach.proofs.has_load.span_meets.Goals as goal

pub loop-w-init : goal.loop-w-init
loop-w-init c = none_yet (any_search _) _

-- what the test says, of the word that the laws name
found : (c : After-meets) → c.meets.result ≡ any (is_written c.args.written.now) (word_reached c.args.span c.loop-w.w)
found c = c.meets.ensures ∙ rw (c.word.ensures.0, c.word.ensures.1, c.bits.ensures) (sym (any_word c.args.span c.loop-w.w _))

pub returns-then-meets : goal.returns-then-meets
returns-then-meets c =
    let here = found (goal.at.returns-then-meets c).After-meets in
    rw reached_words
    (first_found (any_search _) _ c.loop-w.w _ (omega arith) c.loop-w.invariant true (sym c.if-meets.true ∙ here) true≢false)

pub loop-w-preserved : goal.loop-w-preserved
loop-w-preserved c =
    let here = found (goal.at.loop-w-preserved c).After-meets in
    none_more (any_search _) _ _ c.loop-w.invariant (sym here ∙ c.if-meets.false)

pub returns : goal.returns
returns c =
    let end : c.loop-w.w ≡ c.words-w-end.result = omega arith in
    rw (reached_words, ← c.words-w-end.ensures.value, ← end) (sym c.loop-w.invariant)
