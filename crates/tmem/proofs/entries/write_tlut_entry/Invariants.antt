-- `tmem::entries::write_tlut_entry` carries out its eight stores, a halfword at a time. Assumes nothing.
use Prim.Native.Nat.{◌-◌}
use Rattle.tmem.specs.Part.{bytes_in}
use Rattle.tmem.proofs.Carry.{Turn}
use Rattle.tmem.proofs.Rows.{entry_turn}
use Rattle.tmem.proofs.entries.write_tlut_entry.Given as goal

abbrev pub invariant-loop-k : goal.invariant-loop-k
invariant-loop-k l = Turn 4 (entry_turn l.at.0) (bytes_in l.word.bytes) l.initial.memory l.k l.memory

abbrev pub decreases-loop-k : goal.decreases-loop-k
decreases-loop-k l = 4 - l.k
