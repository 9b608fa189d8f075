-- `key::check::Offer::lowest_wrong` goes from part to part. The loop's invariant: the parts before `part` are right. Assumes nothing.
use Prim.Native.Nat.{◌*◌}
use Rattle.key.specs.Offer.{wrong_by}
use Rattle.key.proofs.Offers.{NoneBelow}
use Rattle.key.proofs.check.Offer.lowest_wrong.Given as goal

abbrev pub invariant-loop-part : goal.invariant-loop-part
invariant-loop-part l = NoneBelow (wrong_by l.self.bank.now l.self.notes.now l.self.key.now) 0 (64 * l.part)
