-- `tmem::word::write_split_word` carries out four stores at each of two places. Assumes nothing.
use Prim.Native.Nat.{◌-◌}
use Rattle.rules.specs.Load.{list4}
use Rattle.tmem.specs.Part.{bytes_in, load_of, split_step}
use Rattle.tmem.proofs.Carry.{Turn}
use Rattle.tmem.proofs.Places.{split_turn}
use Rattle.tmem.proofs.word.write_split_word.Given as goal

abbrev pub invariant-loop-i : goal.invariant-loop-i
invariant-loop-i l =
    Turn 2 (split_turn (split_step (load_of l.tile)) (list4 l.four.first.number l.four.odd) l.start) (bytes_in l.word) l.initial.memory l.i
    l.memory

abbrev pub decreases-loop-i : goal.decreases-loop-i
decreases-loop-i l = 2 - l.i
