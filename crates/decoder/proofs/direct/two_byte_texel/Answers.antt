-- `decoder::direct::two_byte_texel` has the rule's channels of the two bytes that it loads. Assumes nothing.
use Rattle.decoder.proofs.Formats.{direct_two}
use Rattle.decoder.proofs.Texels.{two_is}
use Rattle.decoder.specs.Formats.{rule_of, of_pair}
use native.Mathlib.Nat.{add-zero}
use Rattle.decoder.proofs.direct.two_byte_texel.Goals as goal

pub returns : goal.returns
returns c =
    let s = c.args.spot in
    rw (direct_two s.palette s.x s.base.0 s.odd s.rel c.args.format c.requires, c.two.ensures)
    (two_is _ _ _ _ _ _ (of_pair (rule_of c.args.format)) (rw add-zero at c.load-hi.ensures) c.load-lo.ensures c.of_pair.ensures)
