-- `pam::line::tuple_of` compares with the one type. Assumes nothing.
use mathlib.Core.Path.{sym}
use Rattle.rules.specs.Pam.{text}
use Rattle.pam.proofs.Texts.{none-empty}
use Rattle.pam.proofs.line.tuple_of.Goals as goal

pub returns-then-is_same : goal.returns-then-is_same
unfolding text
returns-then-is_same c = rw (none-empty _ _ c.if-is_empty.ensures, sym c.if-is_same.ensures)

pub returns-else-is_same : goal.returns-else-is_same
unfolding text
returns-else-is_same c = rw (none-empty _ _ c.if-is_empty.ensures, sym c.if-is_same.ensures)
