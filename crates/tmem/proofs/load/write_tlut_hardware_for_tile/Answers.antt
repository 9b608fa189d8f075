-- `tmem::load::write_tlut_hardware_for_tile` is the load of a table by the hardware. Assumes nothing.
use Rattle.rules.specs.Calls.{tlut_hardware_call}
use Rattle.tmem.proofs.load.write_tlut_hardware_for_tile.Goals as goal

pub returns : goal.returns
unfolding tlut_hardware_call
returns c = c.load.ensures
