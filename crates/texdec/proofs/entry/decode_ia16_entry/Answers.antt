-- `texdec::entry::decode_ia16_entry` is the rule: the number has the channels. Assumes nothing.
use Rattle.texdec.proofs.Ready.{channels-ready}
use Rattle.rules.specs.Texdec.{ready}
use native.Mathlib.Omega.{arith}
use Prim.Native.Nat.{◌+◌, ◌*◌, ◌/◌, ◌%◌}
use mathlib.Core.List.{[], ◌∷◌}
use mathlib.Core.Path.{◌≡◌, ◌∙◌}
use Rattle.texdec.proofs.entry.decode_ia16_entry.Goals as goal

pub returns : goal.returns
returns c =
    let i = c.args.v / 256 % 256 in
    let a = c.args.v % 256 in
    let sum : i * 65793 + a * 16777216 ≡ ready (i ∷ i ∷ i ∷ a ∷ []) = omega arith in
    c.texel_bytes.ensures ∙ rw sum (channels-ready i i i a (omega arith) (omega arith) (omega arith) (omega arith))
