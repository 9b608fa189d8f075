-- `tmem::entries::RowsLoad::write` carries out the rows of entries, one after the other. Assumes nothing.
use Prim.Native.Nat.{◌-◌}
use Rattle.rules.specs.Load.{entry_row}
use Rattle.tmem.specs.Part.{load_of}
use Rattle.tmem.proofs.Carry.{Counting}
use Rattle.tmem.proofs.entries.RowsLoad.write.Given as goal

abbrev pub invariant-loop-row : goal.invariant-loop-row
invariant-loop-row l = Counting l.self.rows (entry_row (load_of l.tile) l.self.count l.self.stride) l.src l.initial.memory l.row l.memory
    l.tally

abbrev pub decreases-loop-row : goal.decreases-loop-row
decreases-loop-row l = l.self.rows - l.row
