-- `key::check::check_picture` searches by the notes of the picture, made where nothing was noted. Assumes nothing.
use borrow.Author.Rules.{rules}
use mathlib.Core.Path.{◌≡◌, ◌∙◌}
use Rattle.std.specs.Prelude.{None}
use native.Mathlib.Omega.{arith}
use Rattle.key.proofs.Offers.{checked_by_notes}
use Rattle.key.proofs.check.check_picture.Goals as goal

pub returns-in_err-at : goal.returns-in_err-at
returns-in_err-at c =
    let none : c.from_residual.result ≡ None = search rules in
    rw none (checked_by_notes _ _ _ _ _ _ (omega arith) (omega arith) c.note_picture.ensures 4096 c.in_err-at.ensures)

pub returns : goal.returns
returns c =
    c.fault_at.ensures
    ∙ checked_by_notes _ _ _ _ _ _ (omega arith) (omega arith) c.note_picture.ensures _ c.in_ok-at.ensures.0
