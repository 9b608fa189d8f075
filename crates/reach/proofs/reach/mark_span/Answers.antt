-- `reach::reach::mark_span` marks word after word.
use Rattle.std.proofs.Common.{◌≡◌, sym, arith}
use Rattle.reach.proofs.Joined.{marks_none, marks-more}
use Rattle.reach.proofs.Spans.{marks_word, reached_words}
use Rattle.reach.proofs.reach.mark_span.Goals as goal

pub loop-w-init : goal.loop-w-init
loop-w-init c = sym (marks_none _ _)

pub loop-w-preserved : goal.loop-w-preserved
loop-w-preserved c =
    let l = c.loop-w in
    let next = rw (c.word.ensures.0, c.word.ensures.1, c.bits.ensures, ← marks_word c.args.span l.w) at c.mark.ensures in
    marks-more _ _ _ _ _ l.invariant next

pub returns : goal.returns
returns c =
    let end : c.loop-w.w ≡ c.words-w-end.result = omega arith in
    rw (c.loop-w.invariant, end, c.words-w-end.ensures.value, reached_words)
