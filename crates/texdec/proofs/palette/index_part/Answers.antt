-- `texdec::palette::index_part` is the rule's part, by the same tests. Assumes nothing.
use borrow.Author.Tests.{eq-eqb, ne_eqb}
use Rattle.texdec.proofs.palette.index_part.Goals as goal

pub returns-then-siz-ne0 : goal.returns-then-siz-ne0
returns-then-siz-ne0 c = rw (ne_eqb _ _ c.if-siz-ne0.true)

pub returns-then-fmt-eq1 : goal.returns-then-fmt-eq1
returns-then-fmt-eq1 c = rw (eq-eqb _ _ c.if-siz-ne0.false, eq-eqb _ _ c.if-fmt-eq1.true)

pub returns-else-fmt-eq1 : goal.returns-else-fmt-eq1
returns-else-fmt-eq1 c = rw (eq-eqb _ _ c.if-siz-ne0.false, ne_eqb _ _ c.if-fmt-eq1.false)
