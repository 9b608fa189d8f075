-- `pam::header::read_lines` reads a line a turn, up to the ENDHDR line. Assumes nothing.
use mathlib.Core.Path.{◌≡◌}
use Prim.Native.Nat.{◌-◌, ◌≤◌}
use lib.ListN.{length, drop}
use Rattle.rules.specs.Pam.{lines}
use Rattle.pam.specs.Gather.{no_lines, read_from}
use Rattle.pam.proofs.header.read_lines.Given as goal

abbrev pub invariant-loop-end : goal.invariant-loop-end
invariant-loop-end l =
    (l.at ≤ length l.file) × (read_from l.start no_lines (lines (drop l.start l.file)) ≡ read_from l.at l.stated
    (lines (drop l.at l.file)))

abbrev pub decreases-loop-end : goal.decreases-loop-end
decreases-loop-end l = length l.file - l.at
