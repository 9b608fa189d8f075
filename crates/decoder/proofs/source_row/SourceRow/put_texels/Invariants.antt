-- `decoder::source_row::SourceRow::put_texels` writes one texel after the other, each through the part that starts where the ones before it
-- end.
use Rattle.decoder.specs.Formats.{rule_of}
use Rattle.decoder.specs.Linear.{linear_part}
use Rattle.rules.specs.Reading.{given}
use Rattle.rules.specs.Base.{over}
use lib.ListN.{length}
use Prim.Native.Nat.{◌≤◌}
use mathlib.Core.Path.{◌≡◌}
use Rattle.decoder.proofs.source_row.SourceRow.put_texels.Given as goal

abbrev pub invariant-loop-x : goal.invariant-loop-x
invariant-loop-x l =
    (l.x ≤ l.width)
    × (l.out ≡ over (given (linear_part (rule_of l.self.format) l.self.palette l.self.start l.x) l.self.source.now) l.initial.out)
    × (length l.out ≡ length l.initial.out)
