-- `tmem::load_tlut::HardwareLoad::steps`: a step covers an entry at least. Assumes nothing.
use native.Mathlib.Omega.{arith}
use Rattle.tmem.proofs.Runs.{step_covers}
use Rattle.tmem.proofs.load_tlut.HardwareLoad.steps.Goals as goal

pub overflow_sub-result : goal.overflow_sub-result
overflow_sub-result c = omega (arith, c.entries-entries.ensures, step_covers c.args.self.image_siz c.args.self.image_in)

pub nonzero_div-result : goal.nonzero_div-result
nonzero_div-result c = omega (arith, c.entries-entries.ensures, step_covers c.args.self.image_siz c.args.self.image_in)
