-- `reach::has_load::span_meets` looks at word after word: nothing was found in the span's words before word w.
use Rattle.std.proofs.Common.{◌≡◌, false}
use Rattle.rules.specs.Base.{tab, concat, any, is_written}
use Rattle.reach.specs.Span.{word_reached}
use Rattle.reach.proofs.has_load.span_meets.Given as goal

abbrev pub invariant-loop-w : goal.invariant-loop-w
invariant-loop-w l = any (is_written l.written) (concat (tab l.w (word_reached l.span))) ≡ false
