-- `reach::lane::check_lane` refuses by the first test that fails.
use mathlib.Core.Path.{refl, ◌∙◌}
use Rattle.rules.specs.Tile.{bank_size, lane_map_size}
use Rattle.rules.proofs.Refused.{numbered}
use Rattle.rdp.proofs.Refusals.{before, after}
use Rattle.reach.proofs.Within.{length_test, of_length, ok_after}
use Rattle.reach.proofs.lane.check_lane.Goals as goal

pub returns-in_err-refuse-clause-refusal : goal.returns-in_err-refuse-clause-refusal
returns-in_err-refuse-clause-refusal c =
    let a = c.args in
    before _ _ (length_test bank_size a.bank.now) (length_test lane_map_size a.map.now) c.from_residual.ensures.1 (numbered _ refl)
    c.in_err-refuse.ensures

pub returns-clause-refusal : goal.returns-clause-refusal
returns-clause-refusal c =
    let a = c.args in
    after _ (length_test bank_size a.bank.now) (length_test lane_map_size a.map.now) (numbered _ refl) c.in_ok-refuse.ensures
    c.refuse-2.ensures

pub returns-clause-checked : goal.returns-clause-checked
returns-clause-checked c =
    ok_after _ (of_length bank_size _ c.in_ok-refuse.ensures) (λ h. of_length lane_map_size _ (h ∙ c.refuse-2.ensures))
