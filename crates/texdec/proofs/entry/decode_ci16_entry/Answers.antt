-- `texdec::entry::decode_ci16_entry` has the two bytes twice: the number has the channels. Assumes nothing.
use Rattle.texdec.proofs.Ready.{channels-ready}
use Rattle.rules.specs.Texdec.{ready}
use native.Mathlib.Omega.{arith}
use Prim.Native.Nat.{◌+◌, ◌*◌}
use mathlib.Core.List.{[], ◌∷◌}
use mathlib.Core.Path.{◌≡◌, ◌∙◌}
use Rattle.texdec.proofs.entry.decode_ci16_entry.Goals as goal

pub returns : goal.returns
returns c =
    let hi = c.args.hi in
    let lo = c.args.lo in
    let sum : hi * 65537 + lo * 16777472 ≡ ready (hi ∷ lo ∷ hi ∷ lo ∷ []) = omega arith in
    c.texel_bytes.ensures ∙ rw sum (channels-ready hi lo hi lo (omega arith) (omega arith) (omega arith) (omega arith))
