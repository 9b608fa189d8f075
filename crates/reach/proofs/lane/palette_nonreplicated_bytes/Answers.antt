-- `reach::lane::palette_nonreplicated_bytes` answers and leaves the call's outcome.
use mathlib.Core.Path.{sym}
use Rattle.rules.specs.Calls.{lane_call}
use Rattle.rules.proofs.Refused.{done_is}
use Rattle.rdp.proofs.Refusals.{refused_call}
use Rattle.reach.proofs.lane.palette_nonreplicated_bytes.Goals as goal

pub returns-in_err-check_lane : goal.returns-in_err-check_lane
unfolding lane_call
returns-in_err-check_lane c = refused_call _ _ _ _ _ _ _ c.from_residual.ensures.1 c.in_err-check_lane.ensures.refusal

pub returns : goal.returns
unfolding lane_call
returns c =
    let whole = rw c.unwrap.ensures at c.try_into.ensures.1 in
    rw (c.write_lanes.ensures, whole.same) (done_is _ _ _ _ (sym c.in_ok-check_lane.ensures.refusal))
