-- `decoder::source_row::SourceRow::put_pairs` writes one pair of texels after the other, each through the part that starts where the ones
-- before it end.
use Rattle.decoder.specs.Formats.{rule_of}
use Rattle.decoder.specs.Linear.{linear_part}
use Rattle.rules.specs.Reading.{given}
use Rattle.rules.specs.Base.{over}
use lib.ListN.{length}
use Prim.Native.Nat.{◌*◌, ◌≤◌}
use mathlib.Core.Path.{◌≡◌}
use Rattle.decoder.proofs.source_row.SourceRow.put_pairs.Given as goal

abbrev pub invariant-loop-k : goal.invariant-loop-k
invariant-loop-k l =
    (l.k ≤ l.pairs)
    × (l.out ≡ over (given (linear_part (rule_of l.self.format) l.self.palette l.self.start (2 * l.k)) l.self.source.now) l.initial.out)
    × (length l.out ≡ length l.initial.out)
