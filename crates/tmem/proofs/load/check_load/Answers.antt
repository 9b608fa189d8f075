-- `tmem::load::check_load` tests the numbers, the reason, and last whether a number is left. Assumes nothing.
use mathlib.Core.Path.{refl, sym}
use mathlib.Core.List.{List, [], ◌∷◌, ◌++◌}
use Rattle.rules.specs.Refusal.{Test, ◌if◌}
use Rattle.rules.specs.Calls.{number_spent, bad_reason, number_tests}
use Rattle.rules.proofs.Refused.{numbered}
use Rattle.rdp.specs.View.{tile_of}
use Rattle.rdp.proofs.Refusals.{before, after}
use Rattle.tmem.specs.Asked.{asked_outside}
use Rattle.tmem.specs.Reasons.{reason_of}
use Rattle.tmem.proofs.load.check_load.Goals.{Start}
use Rattle.tmem.proofs.load.check_load.Goals as goal

-- the tests of the numbers, and the two after them
abbrev own : Start → List Test
own s = let a = s.args in number_tests a.size (tile_of a.tile) a.image_siz (asked_outside a.image_siz a.asked) []

abbrev why : Start → Test
why s = bad_reason (reason_of s.args.reason)

abbrev spent : Start → Test
spent s = 18 if number_spent s.args.last

pub returns-in_err-check_numbers : goal.returns-in_err-check_numbers
returns-in_err-check_numbers c =
    let s = (goal.at.returns-in_err-check_numbers c).Start in
    before _ _ (own s) (why s ∷ spent s ∷ []) c.from_residual.ensures.1 (numbered _ refl) c.in_err-check_numbers.ensures

pub returns-in_err-refuse : goal.returns-in_err-refuse
returns-in_err-refuse c =
    let s = (goal.at.returns-in_err-refuse c).Start in
    before _ _ (own s ++ (why s ∷ [])) (spent s ∷ []) c.from_residual-in_err-refuse.ensures.1 (numbered _ refl)
    (after _ (own s) (why s ∷ []) (numbered _ refl) c.in_ok-check_numbers.ensures (rw (sym c.outside.ensures) c.in_err-refuse.ensures))

pub returns : goal.returns
returns c =
    let s = (goal.at.returns c).Start in
    after _ (own s) (why s ∷ spent s ∷ []) (numbered _ refl) c.in_ok-check_numbers.ensures
    (after _ (why s ∷ []) (spent s ∷ []) (numbered _ refl) (rw (sym c.outside.ensures) c.in_ok-refuse.ensures)
    (rw (sym c.is_spent.ensures) c.refuse-2.ensures))
