-- `tmem::words::write_words` carries out the words of a run, one after the other. Assumes nothing.
use Prim.Native.Nat.{◌-◌}
use Rattle.tmem.specs.Part.{load_of}
use Rattle.tmem.specs.Run.{run_word}
use Rattle.tmem.proofs.Carry.{Counting}
use Rattle.tmem.proofs.words.write_words.Given as goal

abbrev pub invariant-loop-word : goal.invariant-loop-word
invariant-loop-word l = Counting l.words (run_word (load_of l.tile) l.run) l.src l.initial.own l.word l.own l.tally

abbrev pub decreases-loop-word : goal.decreases-loop-word
decreases-loop-word l = l.words - l.word
