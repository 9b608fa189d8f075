-- `reach::word::each_mark` joins bit after bit.
use Rattle.std.proofs.Common.{◌≡◌, add-one, arith, rules}
use Rattle.reach.specs.Words.{ors, word_marks}
use Rattle.reach.proofs.word.each_mark.Goals as goal

pub loop-k-init : goal.loop-k-init
unfolding ors
loop-k-init c = search rules

pub loop-k-preserved : goal.loop-k-preserved
unfolding ors
loop-k-preserved c = rw (add-one, c.mark_bit-bits.ensures, c.loop-k.invariant)

pub returns : goal.returns
unfolding word_marks
returns c =
    let end : c.loop-k.k ≡ 8 = omega arith in
    rw (c.loop-k.invariant, end)
