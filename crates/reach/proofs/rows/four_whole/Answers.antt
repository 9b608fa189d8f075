-- `reach::rows::four_whole` joins word after word.
use Rattle.std.proofs.Common.{add-one, rules}
use Rattle.reach.specs.Words.{ors}
use Rattle.reach.proofs.rows.four_whole.Goals as goal

pub loop-k-init : goal.loop-k-init
unfolding ors
loop-k-init c = search rules

pub loop-k-preserved : goal.loop-k-preserved
unfolding ors
loop-k-preserved c = rw (add-one, c.eight-all.ensures, c.word.ensures.0, c.word.ensures.1, c.loop-k.invariant)
