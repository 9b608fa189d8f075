-- `splitter::way::Questions::lead` goes the way of a body. Assumes nothing.
use native.Mathlib.Omega.{arith}
use Rattle.splitter.proofs.Ways.{starts, passes_yes}
use Rattle.splitter.proofs.way.Questions.lead.Goals as goal

pub loop-groups-init : goal.loop-groups-init
loop-groups-init c = (omega (arith, c.requires.guides.some), starts _ _)

pub loop-groups-preserved : goal.loop-groups-preserved
loop-groups-preserved c =
    let p = c.pass_noes-stop in
    let onto = p.ensures in
    -- the question that was answered with a yes is one of a group's
    let below = c.requires.guides.below _ onto.within in
    (omega (arith, below), passes_yes _ _ p.result onto.passes c.if-next-stop.false (onto.answered c.if-next-stop.false))
