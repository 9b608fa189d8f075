-- `pam::write::put_part` copies into the part that starts at `at`. Assumes nothing.
use native.Mathlib.Omega.{arith}
use Rattle.pam.proofs.Copies.{copied_at}
use Rattle.pam.proofs.write.put_part.Goals as goal

pub returns-clause-out_after : goal.returns-clause-out_after
returns-clause-out_after c =
    copied_at c.args.part.now c.args.out.now _ _ c.copy_from_slice.ensures.after (omega arith) c.args.at (omega arith)
