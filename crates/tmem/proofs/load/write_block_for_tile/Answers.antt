-- `tmem::load::write_block_for_tile` is the load of a block. Assumes nothing.
use Rattle.rules.specs.Calls.{block_call}
use Rattle.tmem.proofs.load.write_block_for_tile.Goals as goal

pub returns : goal.returns
unfolding block_call
returns c = c.load.ensures
