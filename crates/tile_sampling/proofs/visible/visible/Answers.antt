-- `tile_sampling::visible::visible` cuts both sides. Assumes nothing.
use Rattle.tile_sampling.proofs.visible.visible.Goals as goal

pub returns : goal.returns
returns c = rw (c.visible_side-2.ensures, c.visible_side.ensures)
