-- `decoder::table::entry_table` fills one entry after the other.
use Rattle.decoder.proofs.Tables.{Filled}
use lib.ListN.{length}
use Prim.Native.Nat.{◌≤◌}
use mathlib.Core.Path.{◌≡◌}
use Rattle.decoder.proofs.table.entry_table.Given as goal

abbrev pub invariant-loop-k : goal.invariant-loop-k
invariant-loop-k l =
    (l.k ≤ l.count) × (length l.table ≡ 256) × Filled l.picture.tlut l.picture.lane l.bank l.first l.table l.k
