-- `reach::reach::reach` answers and leaves the call's outcome.
use mathlib.Core.Path.{sym}
use Rattle.rules.specs.Calls.{reach_call}
use Rattle.rules.proofs.Refused.{done_is}
use Rattle.rdp.proofs.Refusals.{refused_call}
use Rattle.reach.proofs.reach.reach.Goals as goal

pub returns-in_err-asked : goal.returns-in_err-asked
unfolding reach_call
returns-in_err-asked c = refused_call _ _ _ _ _ _ _ c.from_residual.ensures.1 c.in_err-asked.ensures.refusal

pub returns : goal.returns
unfolding reach_call
returns c =
    let k = c.in_ok-asked.ensures.checked in
    rw (c.mark_reach.ensures, k.0, k.1) (done_is _ _ _ _ (sym c.in_ok-asked.ensures.refusal))
