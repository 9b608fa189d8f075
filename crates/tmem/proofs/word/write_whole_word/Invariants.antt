-- `tmem::word::write_whole_word` carries out two stores at each of the four places. Assumes nothing.
use Prim.Native.Nat.{◌-◌}
use Rattle.rules.specs.Load.{list4, upper}
use Rattle.tmem.specs.Part.{bytes_in}
use Rattle.tmem.proofs.Carry.{Turn}
use Rattle.tmem.proofs.Places.{whole_turn}
use Rattle.tmem.proofs.word.write_whole_word.Given as goal

abbrev pub invariant-loop-k : goal.invariant-loop-k
invariant-loop-k l =
    Turn 4 (whole_turn (list4 l.four.first.number l.four.odd) (upper l.four.first.number) l.four.odd) (bytes_in l.word) l.initial.memory
    l.k l.memory

abbrev pub decreases-loop-k : goal.decreases-loop-k
decreases-loop-k l = 4 - l.k
