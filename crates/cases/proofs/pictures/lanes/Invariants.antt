-- `cases::pictures::lanes` keeps the weight small.
use Rattle.std.proofs.Common.{◌<◌, ◌^◌}
use Rattle.cases.proofs.pictures.lanes.Given as goal

abbrev pub invariant-loop-lane : goal.invariant-loop-lane
invariant-loop-lane l = l.told.weight < 2 ^ 32
