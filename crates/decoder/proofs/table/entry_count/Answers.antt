-- `decoder::table::entry_count` is how many they are, by the same test. Assumes nothing.
use borrow.Author.Tests.{eq-eqb, ne_eqb}
use Rattle.decoder.proofs.table.entry_count.Goals as goal

pub returns-then-tile-eq0 : goal.returns-then-tile-eq0
returns-then-tile-eq0 c = rw (eq-eqb _ _ c.if-tile-eq0.true)

pub returns-else-tile-eq0 : goal.returns-else-tile-eq0
returns-else-tile-eq0 c = rw (ne_eqb _ _ c.if-tile-eq0.false)
