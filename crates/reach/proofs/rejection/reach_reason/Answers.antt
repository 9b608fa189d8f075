-- `reach::rejection::reach_reason` searches the list that the flag calls for.
use mathlib.Core.Path.{sym, ◌∙◌}
use Rattle.rdp.specs.View.{tile_of}
use Rattle.reach.proofs.Reached.{reach-whole, reach-plain}
use Rattle.reach.proofs.rejection.reach_reason.Goals as goal

pub returns-then-sampling : goal.returns-then-sampling
returns-then-sampling c =
    let a = c.args in
    let flag = sym c.from_tile-sampling.ensures.lookup_value ∙ c.if-sampling.true in
    rw (reach-whole (tile_of a.asked.tile) a.asked.tlut flag, ← c.whole.ensures) c.span_reason.ensures

pub returns : goal.returns
returns c =
    let a = c.args in
    let flag = sym c.from_tile-sampling.ensures.lookup_value ∙ c.if-sampling.false in
    rw (reach-plain (tile_of a.asked.tile) a.asked.tlut flag) c.rows_reason.ensures
