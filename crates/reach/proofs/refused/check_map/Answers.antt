-- `reach::refused::check_map` refuses by the first test that fails; where none does, the fields are in their ranges.
use mathlib.Core.Path.{refl}
use mathlib.Core.List.{[]}
use Rattle.rules.specs.Calls.{sampling_tests, map_tests}
use Rattle.rules.proofs.Refused.{numbered}
use Rattle.rdp.specs.View.{tile_of}
use Rattle.rdp.proofs.Refusals.{before, after}
use Rattle.reach.proofs.Within.{length_test, of_length, of_sampling}
use Rattle.reach.proofs.refused.check_map.Goals as goal

pub returns-in_err-refuse-clause-refusal : goal.returns-in_err-refuse-clause-refusal
returns-in_err-refuse-clause-refusal c =
    let a = c.args in
    before _ _ (length_test a.size a.map.now) (sampling_tests (tile_of a.tile) a.tlut) c.from_residual.ensures.1 (numbered _ refl)
    c.in_err-refuse.ensures

pub returns-in_err-check_tile_and_mode-clause-refusal : goal.returns-in_err-check_tile_and_mode-clause-refusal
returns-in_err-check_tile_and_mode-clause-refusal c =
    let a = c.args in
    let all = map_tests a.size a.map.now (tile_of a.tile) a.tlut in
    before _ _ all [] c.from_residual-in_err-check_tile_and_mode.ensures.1 (numbered all refl)
    (after _ (length_test a.size a.map.now) (sampling_tests (tile_of a.tile) a.tlut) (numbered _ refl) c.in_ok-refuse.ensures
    c.in_err-check_tile_and_mode.ensures)

pub invariant_of-result : goal.invariant_of-result
invariant_of-result c =
    let t = tile_of c.args.tile in
    record { in_range = of_sampling t c.args.tlut c.in_ok-check_tile_and_mode.ensures }

pub returns-clause-refusal : goal.returns-clause-refusal
returns-clause-refusal c =
    let a = c.args in
    after 0 (length_test a.size a.map.now) (sampling_tests (tile_of a.tile) a.tlut) (numbered _ refl) c.in_ok-refuse.ensures
    c.in_ok-check_tile_and_mode.ensures

pub returns-clause-checked : goal.returns-clause-checked
returns-clause-checked c = (refl, refl, of_length _ _ c.in_ok-refuse.ensures)
