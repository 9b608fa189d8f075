-- `pam::line::keyword_of` compares with each keyword. Assumes nothing.
use mathlib.Core.Path.{sym}
use Rattle.rules.specs.Pam.{text}
use Rattle.pam.proofs.Texts.{none-empty}
use Rattle.pam.proofs.line.keyword_of.Goals as goal

pub returns-then-is_same : goal.returns-then-is_same
unfolding text
returns-then-is_same c = rw (none-empty _ _ c.if-is_empty.ensures, sym c.if-is_same.ensures)

pub returns-then-is_same-2 : goal.returns-then-is_same-2
unfolding text
returns-then-is_same-2 c = rw (none-empty _ _ c.if-is_empty.ensures, sym c.if-is_same.ensures, sym c.if-is_same-2.ensures)

pub returns-then-is_same-3 : goal.returns-then-is_same-3
unfolding text
returns-then-is_same-3 c =
    rw (none-empty _ _ c.if-is_empty.ensures, sym c.if-is_same.ensures, sym c.if-is_same-2.ensures, sym c.if-is_same-3.ensures)

pub returns-then-is_same-4 : goal.returns-then-is_same-4
unfolding text
returns-then-is_same-4 c =
    rw (
      none-empty _ _ c.if-is_empty.ensures,
      sym c.if-is_same.ensures,
      sym c.if-is_same-2.ensures,
      sym c.if-is_same-3.ensures,
      sym
          c.if-is_same-4.ensures,
    )

pub returns-then-is_same-5 : goal.returns-then-is_same-5
unfolding text
returns-then-is_same-5 c =
    rw (
      none-empty _ _ c.if-is_empty.ensures,
      sym c.if-is_same.ensures,
      sym c.if-is_same-2.ensures,
      sym c.if-is_same-3.ensures,
      sym
          c.if-is_same-4.ensures,
      sym c.if-is_same-5.ensures,
    )

pub returns-then-is_same-6 : goal.returns-then-is_same-6
unfolding text
returns-then-is_same-6 c =
    rw (
      none-empty _ _ c.if-is_empty.ensures,
      sym c.if-is_same.ensures,
      sym c.if-is_same-2.ensures,
      sym c.if-is_same-3.ensures,
      sym
          c.if-is_same-4.ensures,
      sym c.if-is_same-5.ensures,
      sym c.if-is_same-6.ensures,
    )

pub returns-else-is_same-6 : goal.returns-else-is_same-6
unfolding text
returns-else-is_same-6 c =
    rw (
      none-empty _ _ c.if-is_empty.ensures,
      sym c.if-is_same.ensures,
      sym c.if-is_same-2.ensures,
      sym c.if-is_same-3.ensures,
      sym
          c.if-is_same-4.ensures,
      sym c.if-is_same-5.ensures,
      sym c.if-is_same-6.ensures,
    )
