-- `splitter::way::Questions::pass_noes` goes the way of a body while its answers are noes. The loop's invariant: the slot is one of
-- this way, and none before the one it began at. Assumes nothing.
use Prim.Native.Nat.{◌<◌, ◌≤◌, ◌*◌, ◌/◌, ◌-◌}
use Rattle.splitter.specs.Way.{Passes}
use Rattle.splitter.proofs.way.Questions.pass_noes.Given as goal

abbrev pub invariant-loop-at : goal.invariant-loop-at
invariant-loop-at l =
    (l.at < 2 * l.groups) × (l.slot / 2 ≤ l.at / 2) × Passes l.self l.body l.at

abbrev pub decreases-loop-at : goal.decreases-loop-at
decreases-loop-at l = l.groups - l.at / 2
