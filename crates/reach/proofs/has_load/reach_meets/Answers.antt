-- `reach::has_load::reach_meets` searches the list that the flag calls for.
use mathlib.Core.Path.{sym, ◌∙◌}
use Rattle.rules.specs.Reach.{has_load}
use Rattle.rdp.specs.View.{tile_of}
use Rattle.reach.proofs.Reached.{reach-whole, reach-plain}
use Rattle.reach.proofs.has_load.reach_meets.Goals as goal

pub returns-then-sampling : goal.returns-then-sampling
unfolding has_load
returns-then-sampling c =
    let a = c.args.asked in
    let flag = sym c.from_tile-sampling.ensures.lookup_value ∙ c.if-sampling.true in
    c.span_meets.ensures ∙ rw (c.whole.ensures, reach-whole (tile_of a.tile) a.tlut flag)

pub returns : goal.returns
unfolding has_load
returns c =
    let a = c.args.asked in
    let flag = sym c.from_tile-sampling.ensures.lookup_value ∙ c.if-sampling.false in
    c.rows_meet.ensures ∙ rw (reach-plain (tile_of a.tile) a.tlut flag)
