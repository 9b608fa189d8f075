-- `tmem::load::check_lent` tests three lengths. Assumes nothing.
use mathlib.Core.Path.{refl}
use mathlib.Core.List.{[], ◌∷◌}
use Rattle.rules.specs.Tile.{bank_size, written_size, reasons_size}
use Rattle.rules.specs.Refusal.{Test, ◌if◌}
use Rattle.rules.specs.Calls.{not_bytes}
use Rattle.rules.proofs.Refused.{numbered}
use Rattle.rdp.proofs.Refusals.{before, after}
use Rattle.tmem.proofs.load.check_lent.Goals.{Start}
use Rattle.tmem.proofs.load.check_lent.Goals as goal

-- the tests
abbrev bank : Start → Test
bank s = 1 if not_bytes bank_size s.args.bank.now

abbrev map : Start → Test
map s = 1 if not_bytes written_size s.args.written.now

abbrev reasons : Start → Test
reasons s = 1 if not_bytes reasons_size s.args.reasons.now

pub returns-in_err-refuse : goal.returns-in_err-refuse
returns-in_err-refuse c =
    let s = (goal.at.returns-in_err-refuse c).Start in
    before _ _ (bank s ∷ []) (map s ∷ reasons s ∷ []) c.from_residual.ensures.1 (numbered _ refl) c.in_err-refuse.ensures

pub returns-in_err-refuse-2 : goal.returns-in_err-refuse-2
returns-in_err-refuse-2 c =
    let s = (goal.at.returns-in_err-refuse-2 c).Start in
    before _ _ (bank s ∷ map s ∷ []) (reasons s ∷ []) c.from_residual-in_err-refuse-2.ensures.1 (numbered _ refl)
    (after _ (bank s ∷ []) (map s ∷ []) (numbered _ refl) c.in_ok-refuse.ensures c.in_err-refuse-2.ensures)

pub returns : goal.returns
returns c =
    let s = (goal.at.returns c).Start in
    after _ (bank s ∷ []) (map s ∷ reasons s ∷ []) (numbered _ refl) c.in_ok-refuse.ensures
    (after _ (map s ∷ []) (reasons s ∷ []) (numbered _ refl) c.in_ok-refuse-2.ensures c.refuse-3.ensures)
