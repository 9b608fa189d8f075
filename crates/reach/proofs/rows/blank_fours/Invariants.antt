-- `reach::rows::blank_fours` goes from four rows to the next four: the fours before have nothing.
use Rattle.reach.specs.Span.{BlankFours}
use Rattle.reach.proofs.rows.blank_fours.Given as goal

abbrev pub invariant-loop-i : goal.invariant-loop-i
invariant-loop-i l = BlankFours l.reasons l.one l.line l.i
