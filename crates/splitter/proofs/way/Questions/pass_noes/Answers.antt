-- `splitter::way::Questions::pass_noes` goes the way of a body while its answers are noes. Assumes nothing.
use mathlib.Core.Path.{sym, ◌∙◌}
use native.Mathlib.Omega.{arith}
use Rattle.splitter.proofs.Ways.{passes_no}
use Rattle.splitter.proofs.way.Questions.pass_noes.Goals as goal

pub loop-at-preserved : goal.loop-at-preserved
loop-at-preserved c =
    let l = c.loop-at in
    -- the question that was asked is one of a group's
    let below = c.requires.guides.below _ l.invariant.0 in (
      omega (arith, below),
      omega (arith, l.invariant.1, c.if-next-at.false),
      passes_no _ _ l.at l.invariant.2 c.if-next-at.false (sym c.is_yes.ensures ∙ c.if-is_yes.false),
    )
