-- `decoder::ready::rgba16_by` has the rule's channels of the bytes that it loads, by their halves. Assumes nothing.
use Rattle.decoder.proofs.Texels.{two_is}
use Rattle.decoder.specs.Tables.{half_sum}
use Rattle.texdec.specs.Ready.{halves_of}
use Rattle.texdec.proofs.Halves.{Sums, rgba16_halves_at}
use Rattle.rules.specs.Texdec.{entry_of, rgba16_texel}
use Rattle.rules.specs.Picture.{direct}
use native.Mathlib.Nat.{add-zero}
use native.Mathlib.Omega.{arith}
use mathlib.Core.Path.{◌∙◌}
use Rattle.decoder.proofs.ready.rgba16_by.Goals.{After-load-lo}
use Rattle.decoder.proofs.ready.rgba16_by.Goals as goal

-- the halves of the two bytes make the texel
sums : (c : After-load-lo) → let hi = c.load-hi.result.byte in
    let lo = c.load-lo.result.byte in
    Sums rgba16_texel hi lo (half_sum (halves_of rgba16_texel) hi lo)
sums c = rgba16_halves_at c.load-hi.result.byte c.load-lo.result.byte (omega arith) (omega arith)

pub half_sum-requires : goal.half_sum-requires
half_sum-requires c = rw c.requires (sums (goal.at.half_sum-requires c).After-load-lo).fits

pub returns : goal.returns
unfolding direct
returns c =
    let channels = c.texel_bytes.ensures ∙ rw (c.half_sum.ensures, c.requires) (sums (goal.at.returns c).After-load-lo).gives in
    rw c.two.ensures
    (two_is _ _ _ _ _ _ (λ hi lo. rgba16_texel (entry_of hi lo)) (rw add-zero at c.load-hi.ensures) c.load-lo.ensures channels)
