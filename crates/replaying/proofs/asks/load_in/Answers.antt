-- `replaying::asks::load_in` tests what a load takes, and next after that the companion file's end. Assumes nothing.
use mathlib.Core.Path.{◌≡◌, refl, ap, ◌∙◌}
use mathlib.Core.List.{List, [], ◌∷◌}
use Rattle.rules.specs.Refusal.{Test, first}
use Rattle.rules.specs.Calls.{number_tests}
use Rattle.rules.specs.Lister.{record_tile}
use Rattle.rules.specs.Replay.{tile_in, image_in, size_in, outside_in, beyond}
use Rattle.rules.proofs.Refused.{numbered}
use Rattle.rdp.specs.View.{tile_of}
use Rattle.rdp.proofs.Refusals.{before, after}
use Rattle.tmem.specs.Asked.{asked_outside}
use Rattle.replaying.proofs.Says.{same_numbers}
use Rattle.replaying.proofs.asks.load_in.Goals.{After-check_numbers}
use Rattle.replaying.proofs.asks.load_in.Goals as goal

-- the record's tests before that of the companion file's end
abbrev own : After-check_numbers → List Test
own c = let b = c.args.bytes.now in number_tests (size_in b) (tile_in b) (image_in b) (outside_in b) []

numbers : (c : After-check_numbers) → first (number_tests c.four_at-size.result (tile_of c.record_tile-tile.result) c.two_at-image.result
    (asked_outside c.two_at-image.result c.args.asked) []) ≡ first (own c)
numbers c =
    let tile = c.record_tile-tile.ensures ∙ ap record_tile c.head_in.ensures in
    same_numbers _ _ _ _ _ c.four_at-size.ensures tile c.two_at-image.ensures c.requires

pub returns-in_err-check_numbers-clause-refused : goal.returns-in_err-check_numbers-clause-refused
returns-in_err-check_numbers-clause-refused c =
    let k = (goal.at.returns-in_err-check_numbers-clause-refused c).After-check_numbers in
    before _ _ (own k) (beyond c.args.end c.args.bytes.now ∷ []) c.from_residual.ensures.1 (numbered _ refl)
    (c.in_err-check_numbers.ensures ∙ numbers k)

pub returns-in_err-refuse-clause-refused : goal.returns-in_err-refuse-clause-refused
returns-in_err-refuse-clause-refused c =
    let k = (goal.at.returns-in_err-refuse-clause-refused c).After-check_numbers in
    after _ (own k) _ (numbered _ refl) (c.in_ok-check_numbers.ensures ∙ numbers k)
    (before _ _ (beyond c.args.end c.args.bytes.now ∷ []) [] c.from_residual-in_err-refuse.ensures.1 (numbered _ refl)
    (rw (← c.four_at-offset.ensures, ← c.four_at-size.ensures) c.in_err-refuse.ensures))

pub returns-clause-refused : goal.returns-clause-refused
returns-clause-refused c =
    let k = (goal.at.returns-clause-refused c).After-check_numbers in
    after _ (own k) _ (numbered _ refl) (c.in_ok-check_numbers.ensures ∙ numbers k)
    (rw (← c.four_at-offset.ensures, ← c.four_at-size.ensures) c.in_ok-refuse.ensures)
