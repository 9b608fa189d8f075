-- `rdp::tile::TileDescriptor::column` is the rule's choice: each return rewrites by the tests that led there. Assumes nothing.
use borrow.Author.Tests.{eq-eqb, ne_eqb}
use Rattle.rdp.proofs.tile.TileDescriptor.column.Goals as goal

pub returns-then-self-tlut : goal.returns-then-self-tlut
returns-then-self-tlut c = rw c.if-self-tlut.true

pub returns-then-self-eq0 : goal.returns-then-self-eq0
returns-then-self-eq0 c = rw (c.if-self-tlut.false, eq-eqb _ _ c.if-self-eq0.true)

pub returns-then-self-eq1 : goal.returns-then-self-eq1
returns-then-self-eq1 c = let d = c.before.before in
    rw (d.if-self-tlut.false, ne_eqb _ _ d.if-self-eq0.false, eq-eqb _ _ c.if-self-eq1.true)

pub returns-else-self-eq1 : goal.returns-else-self-eq1
returns-else-self-eq1 c = let d = c.before.before in
    rw (d.if-self-tlut.false, ne_eqb _ _ d.if-self-eq0.false, ne_eqb _ _ c.if-self-eq1.false)
