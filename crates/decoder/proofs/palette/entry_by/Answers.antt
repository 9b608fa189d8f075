-- `decoder::palette::entry_by` has the entry from the table. Assumes nothing.
use Rattle.decoder.proofs.Texels.{paletted_is}
use Rattle.rdp.specs.View.{tile_of}
use native.Mathlib.Omega.{arith}
use mathlib.Core.Path.{◌∙◌}
use Rattle.decoder.proofs.palette.entry_by.Goals as goal

pub returns : goal.returns
returns c =
    let a = c.args in
    let e = c.of_spot-entry.ensures in
    let gives = c.requires.entries.at a.spot.x c.of_spot-entry.result.load.byte (omega arith) in
    let channels = c.texel_bytes.ensures ∙ rw e.index gives in
    rw (c.texel.ensures) (paletted_is (tile_of a.picture.tile) _ _ _ _ _ _ _ _ e channels)
