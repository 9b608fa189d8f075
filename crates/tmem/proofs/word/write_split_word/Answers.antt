-- `tmem::word::write_split_word` carries out four stores at each of two places. Assumes nothing.
use mathlib.Core.Path.{◌∙◌}
use native.Mathlib.Omega.{arith}
use Rattle.rules.specs.Load.{list4}
use Rattle.tmem.specs.Part.{load_of, split_step}
use Rattle.tmem.proofs.Carry.{begin, next, finish}
use Rattle.tmem.proofs.Places.{split_turn_lem, split_is}
use Rattle.tmem.proofs.word.write_split_word.Goals as goal

pub loop-i-init : goal.loop-i-init
loop-i-init c = begin

pub loop-i-preserved : goal.loop-i-preserved
loop-i-preserved c =
    let a = c.args in
    let f = a.four in
    next c.loop-i.invariant c.loop-i-test.true
    (split_turn_lem c.lower_byte-low.result.0 (split_step (load_of a.tile)) (list4 f.first.number f.odd) a.start c.loop-i.i
    (c.lower_byte-low.ensures ∙ c.halfword.ensures) (omega (arith, c.lower_byte-low.ensures)) c.write_split_place.ensures)

pub returns : goal.returns
returns c =
    let f = c.args.four in
    let is = split_is (load_of c.args.tile) (list4 f.first.number f.odd) c.args.start in
    rw (← is) (finish c.loop-i.invariant (omega arith))
