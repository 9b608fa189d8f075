-- `reach::rows::blank_words` goes from word to word: those before have nothing.
use Rattle.reach.specs.Span.{BlankWords}
use Rattle.reach.proofs.rows.blank_words.Given as goal

abbrev pub invariant-loop-w : goal.invariant-loop-w
invariant-loop-w l = BlankWords l.reasons l.span l.w
