-- `reach::has_load::tile_has_load` answers the call's outcome.
use mathlib.Core.Path.{sym}
use Rattle.rules.specs.Calls.{has_load_call}
use Rattle.rules.proofs.Refused.{done_is}
use Rattle.rdp.proofs.Refusals.{refused_call}
use Rattle.reach.proofs.has_load.tile_has_load.Goals as goal

pub returns-in_err-asked : goal.returns-in_err-asked
unfolding has_load_call
returns-in_err-asked c = refused_call _ _ _ _ _ _ _ c.from_residual.ensures.1 c.in_err-asked.ensures.refusal

pub returns : goal.returns
unfolding has_load_call
returns c =
    let k = c.in_ok-asked.ensures.checked in
    let whole = rw c.unwrap.ensures at c.try_into.ensures.1 in
    rw (c.reach_meets.ensures, whole.same, k.0, k.1) (done_is _ _ _ _ (sym c.in_ok-asked.ensures.refusal))
