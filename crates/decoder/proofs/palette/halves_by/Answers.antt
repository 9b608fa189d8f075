-- `decoder::palette::halves_by` has the entry from the halves of its two bytes. Assumes nothing.
use Rattle.decoder.proofs.Tables.{entry_sums, sum_gives}
use Rattle.decoder.proofs.Texels.{paletted_is}
use Rattle.decoder.specs.Tables.{entry_format, half_sum}
use Rattle.texdec.specs.Ready.{halves_of}
use Rattle.texdec.proofs.Halves.{Sums}
use Rattle.rdp.specs.View.{tile_of}
use Prim.Native.Nat.{◌+◌}
use lib.ListN.{get_or}
use native.Mathlib.Omega.{arith}
use mathlib.Core.Path.{◌∙◌, ap}
use Rattle.decoder.proofs.palette.halves_by.Goals.{After-of_spot-entry}
use Rattle.decoder.proofs.palette.halves_by.Goals as goal

-- the halves of the two bytes make the entry's texel
sums : (c : After-of_spot-entry) → let mode = c.args.picture.tlut in
    let at = c.of_spot-entry.result.at in
    let hi = get_or c.args.bank.now at 0 in
    let lo = get_or c.args.bank.now (at + 1) 0 in
    Sums (entry_format mode) hi lo (half_sum (halves_of (entry_format mode)) hi lo)
sums c =
    entry_sums c.args.picture.tlut _ _ (omega arith) (omega arith)

pub half_sum-sum-requires : goal.half_sum-sum-requires
half_sum-sum-requires c = rw c.requires.halves_are (sums (goal.at.half_sum-sum-requires c).After-of_spot-entry).fits

pub returns : goal.returns
returns c =
    let a = c.args in
    let e = c.of_spot-entry.ensures in
    let at = c.of_spot-entry.result.at in
    let hi = ap (λ i. get_or a.bank.now i 0) e.at in
    let lo = ap (λ i. get_or a.bank.now (i + 1) 0) e.at in
    let sum = sums (goal.at.returns c).After-of_spot-entry in
    let channels = c.texel_bytes.ensures
    ∙ rw (c.half_sum-sum.ensures, c.requires.halves_are) (sum_gives a.picture.tlut a.picture.lane a.bank.now _ _ _ _ hi lo sum) in
    rw (c.texel.ensures) (paletted_is (tile_of a.picture.tile) _ _ _ _ _ _ _ _ e channels)
