-- `decoder::source_rows::put_source_rows` writes one row after the other, each through the part that starts where the ones before it end.
use Rattle.decoder.specs.Formats.{rule_of}
use Rattle.decoder.specs.Linear.{linear_rows}
use Rattle.rules.specs.Reading.{given}
use Rattle.rules.specs.Base.{over}
use lib.ListN.{length}
use Prim.Native.Nat.{◌≤◌}
use mathlib.Core.Path.{◌≡◌}
use Rattle.decoder.proofs.source_rows.put_source_rows.Given as goal

abbrev pub invariant-loop-y : goal.invariant-loop-y
invariant-loop-y l =
    (l.y ≤ l.rows)
    × (l.out ≡ over (given (linear_rows (rule_of l.format) l.tile.palette l.stride l.width l.y) l.source) l.initial.out)
    × (length l.out ≡ length l.initial.out)
