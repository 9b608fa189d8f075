-- `tmem::reason::Reason::left`: a reason that is not outside its range is a byte. Assumes nothing.
use native.Mathlib.Omega.{arith}
use lib.Dec.{eqb, ltb}
use borrow.Author.Tests.{ltb-false}
use Rattle.rules.proofs.Ranges.{neither}
use Rattle.tmem.proofs.reason.Reason.left.Goals as goal

pub overflow_cast-result : goal.overflow_cast-result
overflow_cast-result c =
    let n = c.in-Rejected.number in
    let p = neither (eqb n 0) (ltb 255 n) (rw c.in-Rejected.is at c.requires) in
    omega (arith, ltb-false 255 n p.1)
