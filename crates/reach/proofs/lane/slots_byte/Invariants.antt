-- `reach::lane::slots_byte` joins slot after slot: the bits are those of the slots below k.
use Rattle.std.proofs.Common.{◌≡◌, ◌+◌, ◌*◌}
use Rattle.reach.specs.Words.{ors}
use Rattle.reach.specs.Slots.{slot_bit}
use Rattle.reach.proofs.lane.slots_byte.Given as goal

abbrev pub invariant-loop-k : goal.invariant-loop-k
invariant-loop-k l = l.bits ≡ ors l.k (λ n. slot_bit l.bank (8 * l.i + n))
