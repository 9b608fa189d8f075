-- `pam::write::put_file` writes the texels after the header. Assumes nothing.
use mathlib.Core.List.{[]}
use lib.ListN.{take}
use Rattle.decimal.proofs.Writes.{wrote_none, wrote_more}
use Rattle.pam.proofs.write.put_file.Goals as goal

pub returns-clause-file_after : goal.returns-clause-file_after
returns-clause-file_after c =
    let a = c.args in
    let file = a.file.now in
    let e = c.put_part-at.ensures in
    let f = c.put_part.ensures in
    let one = wrote_more [] file 0 file a.header.now _ _ (wrote_none file) e.value e.out_after in
    let two = wrote_more _ file _ _ (take a.count a.picture.now) _ _ one f.value f.out_after in
    two.is
