-- `reach::reason::each_place` goes from place to place.
use Rattle.std.proofs.Common.{◌≡◌, sym, ◌∙◌, arith}
use Rattle.reach.specs.Span.{word_reached}
use Rattle.reach.proofs.Joined.{none_yet, none_more, first_found, reason_search}
use Rattle.reach.proofs.reason.each_place.Goals as goal

pub loop-k-init : goal.loop-k-init
loop-k-init c = none_yet (reason_search _) _

pub returns-then-reason-ne0 : goal.returns-then-reason-ne0
unfolding word_reached
returns-then-reason-ne0 c =
    first_found (reason_search _) _ c.loop-k.k _ (omega (arith, c.places-places.ensures)) c.loop-k.invariant _
    c.place_reason-reason.ensures c.if-reason-ne0.true

pub loop-k-preserved : goal.loop-k-preserved
loop-k-preserved c =
    none_more (reason_search _) _ _ c.loop-k.invariant (sym c.place_reason-reason.ensures ∙ c.if-reason-ne0.false)

pub returns : goal.returns
unfolding word_reached
returns c =
    let end : c.loop-k.k ≡ c.places-places.result = omega arith in
    rw (← c.places-places.ensures, ← end) (sym c.loop-k.invariant)
