-- `decoder::ready::ia4_by` has the rule's channels of the nibble that it loads. Assumes nothing.
use Rattle.decoder.proofs.Texels.{one_is}
use Rattle.texdec.proofs.Nibbles.{nibble_small}
use Rattle.texdec.proofs.Ready.{ia4_at}
use Rattle.rules.specs.Texdec.{ia4_texel, nibble}
use Rattle.rules.specs.Picture.{direct}
use native.Mathlib.Nat.{add-zero}
use native.Mathlib.Omega.{arith}
use Prim.Native.Nat.{◌<◌}
use mathlib.Core.Path.{◌∙◌}
use Rattle.decoder.proofs.ready.ia4_by.Goals.{After-nibble-n}
use Rattle.decoder.proofs.ready.ia4_by.Goals as goal

-- a nibble has its place in the table
small : (c : After-nibble-n) → c.nibble-n.result < 16
small c = rw c.nibble-n.ensures (nibble_small c.args.spot.x c.load-load.result.byte (omega arith))

pub bounds-table-n : goal.bounds-table-n
bounds-table-n c = small (goal.at.bounds-table-n c).After-nibble-n

pub returns : goal.returns
unfolding direct
returns c =
    let n = c.nibble-n.result in
    let gives = rw c.nibble-n.ensures at (ia4_at n (small (goal.at.returns c).After-nibble-n)) in
    let channels = c.texel_bytes.ensures ∙ rw (c.requires, c.nibble-n.ensures) gives in
    rw c.one.ensures (one_is _ _ _ _ (λ v. ia4_texel (nibble c.args.spot.x v)) (rw add-zero at c.load-load.ensures) channels)
