-- `reach::lane::after_slot` leaves at the first pair that differs: each return rewrites by the tests that led there.
use mathlib.Core.Path.{sym, ◌∙◌}
use Rattle.rules.specs.Base.{any}
use Rattle.rules.specs.Reach.{uneven}
use Rattle.reach.proofs.lane.after_slot.Goals as goal

pub returns-then-pair_differs : goal.returns-then-pair_differs
unfolding uneven any
returns-then-pair_differs c = rw (sym c.pair_differs.ensures ∙ c.if-pair_differs.true)

pub returns-then-pair_differs-2 : goal.returns-then-pair_differs-2
unfolding uneven any
returns-then-pair_differs-2 c =
    rw (sym c.pair_differs.ensures ∙ c.if-pair_differs.false, sym c.pair_differs-2.ensures ∙ c.if-pair_differs-2.true)

pub returns-then-pair_differs-3 : goal.returns-then-pair_differs-3
unfolding uneven any
returns-then-pair_differs-3 c =
    rw (
      sym c.pair_differs.ensures ∙ c.if-pair_differs.false,
      sym c.pair_differs-2.ensures ∙ c.if-pair_differs-2.false,
      sym c.pair_differs-3.ensures ∙ c.if-pair_differs-3.true,
    )

pub returns : goal.returns
unfolding uneven any
returns c =
    rw (
      sym c.pair_differs.ensures ∙ c.if-pair_differs.false,
      sym c.pair_differs-2.ensures ∙ c.if-pair_differs-2.false,
      sym c.pair_differs-3.ensures ∙ c.if-pair_differs-3.false,
    )
