-- `reach::rows::four_words` joins word after word.
use Rattle.std.proofs.Common.{add-one, rules}
use Rattle.reach.specs.Words.{ors}
use Rattle.reach.proofs.rows.four_words.Goals as goal

pub loop-k-init : goal.loop-k-init
unfolding ors
loop-k-init c = search rules

pub loop-k-preserved : goal.loop-k-preserved
unfolding ors
loop-k-preserved c = rw (add-one, c.eight.ensures, c.word.ensures.0, c.word.ensures.1, c.of_rows.ensures, c.loop-k.invariant)
