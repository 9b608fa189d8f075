-- `cases::show::weight` keeps its number small.
use Rattle.std.proofs.Common.{◌<◌, ◌^◌}
use Rattle.cases.proofs.show.weight.Given as goal

abbrev pub invariant-loop-byte : goal.invariant-loop-byte
invariant-loop-byte l = l.weight < 2 ^ 32
