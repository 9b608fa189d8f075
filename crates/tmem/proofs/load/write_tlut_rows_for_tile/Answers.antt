-- `tmem::load::write_tlut_rows_for_tile` is the load of a table by rows. Assumes nothing.
use Rattle.rules.specs.Calls.{tlut_rows_call}
use Rattle.tmem.proofs.load.write_tlut_rows_for_tile.Goals as goal

pub returns : goal.returns
unfolding tlut_rows_call
returns c = c.load.ensures
