-- `tmem::word::write_whole_word` carries out two stores at each of the four places. Assumes nothing.
use native.Mathlib.Omega.{arith}
use Rattle.rules.specs.Load.{whole_stores}
use Rattle.tmem.proofs.Carry.{begin, next, finish}
use Rattle.tmem.proofs.word.write_whole_word.Goals as goal

pub loop-k-init : goal.loop-k-init
loop-k-init c = begin

pub loop-k-preserved : goal.loop-k-preserved
loop-k-preserved c =
    next c.loop-k.invariant c.loop-k-test.true
    (rw (c.lower_byte.ensures, c.halfword-n.ensures, c.half_start.ensures.result_value) at c.write_whole_place.ensures)

pub returns : goal.returns
unfolding whole_stores
returns c = finish c.loop-k.invariant (omega arith)
