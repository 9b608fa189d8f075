-- `pam::read::copy_texels` copies a part of the file. Assumes nothing.
use native.Mathlib.Omega.{arith}
use Prim.Native.Nat.{◌+◌, ◌-◌}
use mathlib.Core.Path.{◌≡◌, ap, ◌∙◌}
use lib.ListN.{take, drop, length-take, length-drop}
use Rattle.pam.proofs.Copies.{copied}
use Rattle.pam.proofs.read.copy_texels.Goals as goal

pub returns : goal.returns
returns c =
    let a = c.args in
    let from = drop a.start a.file.now in
    let n : a.start + a.count - a.start ≡ a.count = omega arith in
    let filled = c.copy_from_slice.ensures.after ∙ ap (λ k. take k from) n in
    copied (take a.count from) a.picture.now _ a.count filled (simp (length-take, length-drop) (omega arith))
