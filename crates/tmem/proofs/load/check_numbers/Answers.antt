-- `tmem::load::check_numbers` refuses by the first test that fails. Assumes nothing.
use mathlib.Core.Path.{refl, sym}
use mathlib.Core.List.{[], ◌∷◌}
use Rattle.rules.specs.Tile.{load_fields_outside}
use Rattle.rules.specs.Refusal.{Test, ◌if◌}
use Rattle.rules.specs.Calls.{source_outside}
use Rattle.rules.proofs.Refused.{numbered}
use Rattle.rdp.specs.View.{tile_of}
use Rattle.rdp.proofs.Refusals.{before, after}
use Rattle.tmem.specs.Asked.{asked_outside}
use Rattle.tmem.proofs.load.check_numbers.Goals.{Start}
use Rattle.tmem.proofs.load.check_numbers.Goals as goal

-- the tests
abbrev fields : Start → Test
fields s = 2 if load_fields_outside (tile_of s.args.tile)

abbrev source : Start → Test
source s = 4 if source_outside s.args.size s.args.image_siz

abbrev own : Start → Test
own s = 4 if asked_outside s.args.image_siz s.args.asked

pub returns-in_err-refuse : goal.returns-in_err-refuse
returns-in_err-refuse c =
    let s = (goal.at.returns-in_err-refuse c).Start in
    before _ _ (fields s ∷ []) (source s ∷ own s ∷ []) c.from_residual.ensures.1 (numbered _ refl)
    (rw (sym c.load_fields_outside.ensures) c.in_err-refuse.ensures)

pub returns-in_err-refuse-2 : goal.returns-in_err-refuse-2
returns-in_err-refuse-2 c =
    let s = (goal.at.returns-in_err-refuse-2 c).Start in
    before _ _ (fields s ∷ source s ∷ []) (own s ∷ []) c.from_residual-in_err-refuse-2.ensures.1 (numbered _ refl)
    (after _ (fields s ∷ []) (source s ∷ []) (numbered _ refl) (rw (sym c.load_fields_outside.ensures) c.in_ok-refuse.ensures)
    c.in_err-refuse-2.ensures)

pub returns : goal.returns
returns c =
    let s = (goal.at.returns c).Start in
    after _ (fields s ∷ []) (source s ∷ own s ∷ []) (numbered _ refl) (rw (sym c.load_fields_outside.ensures) c.in_ok-refuse.ensures)
    (after _ (source s ∷ []) (own s ∷ []) (numbered _ refl) c.in_ok-refuse-2.ensures
    (rw (sym c.outside.ensures) c.refuse-3.ensures))
