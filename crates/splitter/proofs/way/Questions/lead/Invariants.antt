-- `splitter::way::Questions::lead` goes the way of a body. The loop's invariant: the slot is one of this way. Assumes nothing.
use Prim.Native.Nat.{◌<◌, ◌*◌, ◌/◌, ◌-◌}
use Rattle.splitter.specs.Way.{Passes}
use Rattle.splitter.proofs.way.Questions.lead.Given as goal

abbrev pub invariant-loop-groups : goal.invariant-loop-groups
invariant-loop-groups l = (l.slot < 2 * l.groups) × Passes l.self l.body l.slot

abbrev pub decreases-loop-groups : goal.decreases-loop-groups
decreases-loop-groups l = l.groups - l.slot / 2
