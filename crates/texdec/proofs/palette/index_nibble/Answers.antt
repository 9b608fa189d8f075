-- `texdec::palette::index_nibble` is the rule's choice, by the same test. Assumes nothing.
use borrow.Author.Tests.{eq-eqb, ne_eqb}
use Rattle.texdec.proofs.palette.index_nibble.Goals as goal

pub returns-then-x-eq0 : goal.returns-then-x-eq0
returns-then-x-eq0 c = rw (eq-eqb _ _ c.if-x-eq0.true)

pub returns-else-x-eq0 : goal.returns-else-x-eq0
returns-else-x-eq0 c = rw (ne_eqb _ _ c.if-x-eq0.false)
