-- `decoder::direct::one_byte_texel` has the rule's channels of the byte that it loads. Assumes nothing.
use Rattle.decoder.proofs.Formats.{direct_one}
use Rattle.decoder.proofs.Texels.{one_is}
use Rattle.decoder.specs.Formats.{rule_of, of_byte}
use native.Mathlib.Nat.{add-zero}
use Rattle.decoder.proofs.direct.one_byte_texel.Goals as goal

pub returns : goal.returns
returns c =
    let s = c.args.spot in
    rw (direct_one s.palette s.x s.base.0 s.odd s.rel c.args.format c.requires, c.one.ensures)
    (one_is _ _ _ _ (of_byte (rule_of c.args.format) s.palette s.x) (rw add-zero at c.load-load.ensures) c.of_byte.ensures)
