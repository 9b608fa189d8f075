-- `reach::reason::each_place` goes from place to place: the places below k have no reason.
use Rattle.std.proofs.Common.{◌≡◌}
use Rattle.rules.specs.Base.{tab, concat}
use Rattle.rules.specs.Reach.{first_reason}
use Rattle.reach.specs.Span.{place_reached}
use Rattle.reach.proofs.reason.each_place.Given as goal

abbrev pub invariant-loop-k : goal.invariant-loop-k
invariant-loop-k l = first_reason l.reasons (concat (tab l.k (place_reached l.span l.w))) ≡ 0
