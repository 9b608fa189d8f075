-- `tmem::source::pair` writes its pair four times by one product. Assumes nothing.
use native.Mathlib.Omega.{arith}
use Rattle.tmem.proofs.source.pair.Goals as goal

pub returns-clause-bytes : goal.returns-clause-bytes
returns-clause-bytes c = omega (arith, c.from_le_bytes.ensures)
