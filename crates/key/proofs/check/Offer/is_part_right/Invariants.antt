-- `key::check::Offer::is_part_right` goes through the whole part. The loop's invariant: where `right` still is true, the bytes so far are
-- right. Assumes nothing.
use mathlib.Core.Path.{◌≡◌}
use mathlib.Core.Bool.{true}
use Rattle.key.specs.Offer.{wrong_by}
use Rattle.key.proofs.Offers.{NoneBelow}
use Rattle.key.proofs.check.Offer.is_part_right.Given as goal

abbrev pub invariant-loop-at : goal.invariant-loop-at
invariant-loop-at l = l.right ≡ true → NoneBelow (wrong_by l.self.bank.now l.self.notes.now l.self.key.now) l.from l.at
