-- `pam::word::count_of` reads digits. Assumes nothing.
use Rattle.pam.proofs.Counts.{Counted}
use Rattle.pam.proofs.word.count_of.Given as goal

abbrev pub invariant-loop-b : goal.invariant-loop-b
invariant-loop-b l = Counted l.s l.b-index l.n
