-- `tmem::entries::RowsLoad::write_row` carries out the entries of a row, one after the other. Assumes nothing.
use Prim.Native.Nat.{◌-◌}
use Rattle.rules.specs.Load.{entry_stores}
use Rattle.tmem.specs.Part.{load_of}
use Rattle.tmem.proofs.Carry.{Counting}
use Rattle.tmem.proofs.entries.RowsLoad.write_row.Given as goal

abbrev pub invariant-loop-i : goal.invariant-loop-i
invariant-loop-i l = Counting l.self.count (entry_stores (load_of l.tile) l.self.stride l.row) l.src l.initial.own l.i l.own l.tally

abbrev pub decreases-loop-i : goal.decreases-loop-i
decreases-loop-i l = l.self.count - l.i
