-- `decoder::table::halves_of` is the table of the mode. Assumes nothing.
use borrow.Author.Tests.{eq-eqb, ne_eqb}
use Rattle.decoder.proofs.table.halves_of.Goals as goal

pub returns-then-tlut_fmt-eq2 : goal.returns-then-tlut_fmt-eq2
returns-then-tlut_fmt-eq2 c = rw (eq-eqb _ _ c.if-tlut_fmt-eq2.true) c.rgba16_halves.ensures

pub returns-else-tlut_fmt-eq2 : goal.returns-else-tlut_fmt-eq2
returns-else-tlut_fmt-eq2 c = rw (ne_eqb _ _ c.if-tlut_fmt-eq2.false) c.ia16_halves.ensures
