-- `reach::lane::slots_byte` joins slot after slot.
use Rattle.std.proofs.Common.{◌≡◌, ◌∙◌, add-one, arith, rules}
use Rattle.reach.specs.Words.{ors}
use Rattle.reach.specs.Slots.{slots_byte}
use Rattle.reach.proofs.Lanes.{next_slot}
use Rattle.reach.proofs.lane.slots_byte.Goals as goal

pub loop-k-init : goal.loop-k-init
unfolding ors
loop-k-init c = search rules

pub loop-k-preserved : goal.loop-k-preserved
unfolding ors
loop-k-preserved c =
    let l = c.loop-k in
    c.after_slot-bits.ensures ∙ next_slot c.args.bank.now c.args.i l.k l.bits (omega arith) ∙ rw (add-one, l.invariant)

pub returns : goal.returns
unfolding slots_byte
returns c =
    let end : c.loop-k.k ≡ 8 = omega arith in
    rw (c.loop-k.invariant, end)
