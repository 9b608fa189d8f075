-- `reach::reach::mark_span` marks word after word: the map has the marks of the span's words before word w.
use Rattle.std.proofs.Common.{◌≡◌}
use Rattle.rules.specs.Base.{tab, concat, marks}
use Rattle.reach.specs.Span.{word_reached}
use Rattle.reach.proofs.reach.mark_span.Given as goal

abbrev pub invariant-loop-w : goal.invariant-loop-w
invariant-loop-w l = l.map ≡ marks l.initial.map (concat (tab l.w (word_reached l.span)))
