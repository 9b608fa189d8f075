-- `splitter::split::write_sides` writes side after side. The loop's invariant: the sides below i are the rule's, and i entries are known.
-- Assumes nothing.
use mathlib.Core.Path.{◌≡◌}
use Prim.Native.Nat.{◌-◌, ◌≤◌, ◌<◌}
use lib.ListN.{length, take}
use Rattle.rules.specs.Split.{body_at, sides, total}
use Rattle.splitter.specs.Way.{Known}
use Rattle.splitter.proofs.split.write_sides.Given as goal

abbrev pub invariant-loop-i : goal.invariant-loop-i
invariant-loop-i l =
    (0 < l.i)
    × (l.i ≤ length l.out)
    × (length l.out ≡ length l.initial.out)
    × (take l.i l.out ≡ sides (body_at l.entries) l.i)
    × (l.held_out ≡ total 1 (sides (body_at l.entries) l.i))
    × Known (body_at l.entries) l.i l.groups

abbrev pub decreases-loop-i : goal.decreases-loop-i
decreases-loop-i l = length l.out - l.i
