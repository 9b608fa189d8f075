-- `tmem::load::load` refuses, or carries out what is asked. Assumes nothing.
use mathlib.Core.Path.{refl, sym, ◌∙◌}
use mathlib.Core.List.{[], ◌∷◌}
use native.Mathlib.Omega.{arith}
use lib.ListN.{length}
use Rattle.rules.specs.Calls.{AllLent, lent_tests}
use Rattle.rules.proofs.LentTests.{all_lent, lent_passed}
use Rattle.rdp.specs.View.{tile_of}
use Rattle.rules.proofs.Refused.{numbered, first-before}
use Rattle.rdp.proofs.Refusals.{numbered as by_number, refused_call_or}
use Rattle.tmem.specs.Asked.{asked_outside}
use Rattle.tmem.specs.Reasons.{reason_of}
use Rattle.tmem.proofs.Within.{Within, within, own_tests, loaded_done}
use Rattle.tmem.proofs.load.load.Goals.{In_ok-check_lent, In_ok-check_load}
use Rattle.tmem.proofs.load.load.Goals as goal

-- all have their lengths
lent : (c : In_ok-check_lent) → AllLent c.args.bank.now c.args.written.now c.args.reasons.now
lent c = let a = c.args in (lent_passed a.bank.now a.written.now a.reasons.now [] (sym c.in_ok-check_lent.ensures)).0

-- so the load is inside its ranges
inside : (c : In_ok-check_load) → let a = c.args in Within a.image_siz (asked_outside a.image_siz a.asked) (reason_of a.reason) a.last
inside c =
    let a = c.args in
    within (length a.src.now) (tile_of a.tile) a.image_siz (asked_outside a.image_siz a.asked) (reason_of a.reason) a.last
    c.in_ok-check_load.ensures

pub returns-in_err-check_lent : goal.returns-in_err-check_lent
returns-in_err-check_lent c =
    let a = c.args in
    let own = own_tests (length a.src.now) (tile_of a.tile) a.image_siz (asked_outside a.image_siz a.asked) (reason_of a.reason) a.last in
    refused_call_or _ _ _ _ _ _ _ _ c.from_residual.ensures.1
    (first-before (lent_tests a.bank.now a.written.now a.reasons.now []) own _ (numbered _ refl) c.in_err-check_lent.ensures (by_number _))

pub returns-in_err-check_load : goal.returns-in_err-check_load
returns-in_err-check_load c =
    let a = c.args in
    let own = own_tests (length a.src.now) (tile_of a.tile) a.image_siz (asked_outside a.image_siz a.asked) (reason_of a.reason) a.last in
    refused_call_or _ _ _ _ _ _ _ _ c.from_residual-in_err-check_load.ensures.1
    (c.in_err-check_load.ensures
    ∙ sym (all_lent a.bank.now a.written.now a.reasons.now own (lent (goal.at.returns-in_err-check_load c).In_ok-check_lent)))

pub overflow_add-number : goal.overflow_add-number
overflow_add-number c = omega (arith, (inside (goal.at.overflow_add-number c).In_ok-check_load).number_in)

pub overflow_cast-label : goal.overflow_cast-label
overflow_cast-label c = omega (arith, (inside (goal.at.overflow_cast-label c).In_ok-check_load).number_in)

pub left-requires : goal.left-requires
left-requires c = (inside (goal.at.left-requires c).In_ok-check_load).reason_in

pub unwrap-requires : goal.unwrap-requires
unwrap-requires c = c.as_mut_array.ensures.variant.1 (lent (goal.at.unwrap-requires c).In_ok-check_lent).whole_bank

pub unwrap-requires-2 : goal.unwrap-requires-2
unwrap-requires-2 c = c.as_mut_array-2.ensures.variant.1 (lent (goal.at.unwrap-requires-2 c).In_ok-check_lent).whole_map

pub unwrap-requires-3 : goal.unwrap-requires-3
unwrap-requires-3 c = c.as_mut_array-3.ensures.variant.1 (lent (goal.at.unwrap-requires-3 c).In_ok-check_lent).whole_reasons

pub carry_out-done-requires : goal.carry_out-done-requires
carry_out-done-requires c =
    let w = inside (goal.at.carry_out-done-requires c).In_ok-check_load in
    record { image_siz_bound = w.image_in; asked_inside = w.inside }

pub returns : goal.returns
returns c =
    let a = c.args in
    let own = own_tests (length a.src.now) (tile_of a.tile) a.image_siz (asked_outside a.image_siz a.asked) (reason_of a.reason) a.last in
    let none = all_lent a.bank.now a.written.now a.reasons.now own (lent (goal.at.returns c).In_ok-check_lent)
    ∙ sym c.in_ok-check_load.ensures in
    let bank = (rw c.unwrap.ensures at c.as_mut_array.ensures.cases).same in
    let map = (rw c.unwrap-2.ensures at c.as_mut_array-2.ensures.cases).same in
    let reasons = (rw c.unwrap-3.ensures at c.as_mut_array-3.ensures.cases).same in
    loaded_done _ _ _ _ (reason_of a.reason) _ _ none refl c.left.ensures
    (rw (c.into.ensures, bank, map, reasons) at c.carry_out-done.ensures)
