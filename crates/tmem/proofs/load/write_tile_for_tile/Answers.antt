-- `tmem::load::write_tile_for_tile` is the load of a tile. Assumes nothing.
use Rattle.rules.specs.Calls.{tile_call}
use Rattle.tmem.proofs.load.write_tile_for_tile.Goals as goal

pub returns : goal.returns
unfolding tile_call
returns c = c.load.ensures
