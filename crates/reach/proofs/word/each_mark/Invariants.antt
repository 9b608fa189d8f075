-- `reach::word::each_mark` joins bit after bit: the bits are those of the addresses below k.
use Rattle.std.proofs.Common.{◌≡◌}
use Rattle.reach.specs.Words.{ors, mark_bit}
use Rattle.reach.proofs.word.each_mark.Given as goal

abbrev pub invariant-loop-k : goal.invariant-loop-k
invariant-loop-k l = l.bits ≡ ors l.k (mark_bit l.written l.at)
