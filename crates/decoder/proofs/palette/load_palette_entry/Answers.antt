-- `decoder::palette::load_palette_entry` reads the entry as the mode says. Assumes nothing.
use Rattle.rules.specs.Reading.{given}
use borrow.Author.Tests.{eq-eqb, ne_eqb}
use Rattle.decoder.proofs.palette.load_palette_entry.Goals as goal

pub returns-then-tlut_fmt-eq2 : goal.returns-then-tlut_fmt-eq2
unfolding given
returns-then-tlut_fmt-eq2 c =
    let mode = eq-eqb _ _ c.if-tlut_fmt-eq2.true in
    simp (c.decode_rgba16_entry.ensures, c.entry_of-entry.ensures, mode)

pub returns-else-tlut_fmt-eq2 : goal.returns-else-tlut_fmt-eq2
unfolding given
returns-else-tlut_fmt-eq2 c =
    let mode = ne_eqb _ _ c.if-tlut_fmt-eq2.false in
    simp (c.decode_ia16_entry.ensures, c.entry_of-entry.ensures, mode)
