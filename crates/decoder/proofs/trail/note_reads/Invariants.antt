-- `decoder::trail::note_reads` writes one address after the other.
use Rattle.decoder.specs.Rows.{capped}
use Rattle.rules.specs.Reading.{encoded}
use Rattle.rules.specs.Base.{over}
use lib.ListN.{take}
use Prim.Native.Nat.{◌≤◌}
use mathlib.Core.Path.{◌≡◌}
use Rattle.decoder.proofs.trail.note_reads.Given as goal

abbrev pub invariant-loop-i : goal.invariant-loop-i
invariant-loop-i l = (l.i ≤ 4) × (l.seen ≡ over (encoded (take (capped l.i l.count) l.reads)) l.initial.seen)
