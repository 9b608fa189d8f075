-- `decoder::ready::ia8_by` has the rule's channels of the byte that it loads. Assumes nothing.
use Rattle.decoder.proofs.Texels.{one_is}
use Rattle.texdec.proofs.Ready.{ia8_at}
use Rattle.rules.specs.Texdec.{ia8_texel}
use Rattle.rules.specs.Picture.{direct}
use native.Mathlib.Nat.{add-zero}
use native.Mathlib.Omega.{arith}
use mathlib.Core.Path.{◌∙◌}
use Rattle.decoder.proofs.ready.ia8_by.Goals as goal

pub returns : goal.returns
unfolding direct
returns c =
    let channels = c.texel_bytes.ensures ∙ rw c.requires (ia8_at c.load-load.result.byte (omega arith)) in
    rw c.one.ensures (one_is _ _ _ _ (λ v. ia8_texel v) (rw add-zero at c.load-load.ensures) channels)
