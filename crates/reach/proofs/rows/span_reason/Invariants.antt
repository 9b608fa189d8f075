-- `reach::rows::span_reason` goes from word to word: the words before word w have no reason.
use Rattle.std.proofs.Common.{◌≡◌}
use Rattle.rules.specs.Base.{tab, concat}
use Rattle.rules.specs.Reach.{first_reason}
use Rattle.reach.specs.Span.{word_reached}
use Rattle.reach.proofs.rows.span_reason.Given as goal

abbrev pub invariant-loop-w : goal.invariant-loop-w
invariant-loop-w l = first_reason l.reasons (concat (tab l.w (word_reached l.span))) ≡ 0
