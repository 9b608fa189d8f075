-- `reach::reach::mark_reach` clears the map and marks the list that the flag calls for.
use Rattle.std.proofs.Common.{◌≡◌, sym, ◌∙◌, length, arith}
use Rattle.rules.specs.Tile.{map_size}
use Rattle.rules.specs.Reach.{reach_map}
use Rattle.rdp.specs.View.{tile_of}
use Rattle.reach.proofs.Reached.{reach-whole, reach-plain}
use Rattle.reach.proofs.reach.mark_reach.Goals as goal

pub returns-then-sampling : goal.returns-then-sampling
unfolding reach_map
returns-then-sampling c =
    let a = c.args in
    let long : length a.map.now ≡ map_size = omega arith in
    let flag = sym c.from_tile-sampling.ensures.lookup_value ∙ c.if-sampling.true in
    c.mark_span.ensures ∙ rw (reach-whole (tile_of a.asked.tile) a.asked.tlut flag, c.whole.ensures, c.fill.ensures.after (λ y e. e), long)

pub returns-else-sampling : goal.returns-else-sampling
unfolding reach_map
returns-else-sampling c =
    let a = c.args in
    let long : length a.map.now ≡ map_size = omega arith in
    let flag = sym c.from_tile-sampling.ensures.lookup_value ∙ c.if-sampling.false in
    c.mark_rows.ensures ∙ rw (reach-plain (tile_of a.asked.tile) a.asked.tlut flag, c.fill.ensures.after (λ y e. e), long)
