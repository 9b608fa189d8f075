-- `decoder::palette::entry_texel` has the entry as the bank has it. Assumes nothing.
use Rattle.decoder.proofs.Texels.{paletted_is}
use Rattle.rdp.specs.View.{tile_of}
use Rattle.decoder.proofs.palette.entry_texel.Goals as goal

pub returns : goal.returns
returns c =
    let a = c.args in
    let e = c.of_spot-entry.ensures in
    let channels = rw e.at at c.load_palette_entry.ensures in
    rw (c.texel.ensures) (paletted_is (tile_of a.picture.tile) _ _ _ _ _ _ _ _ e channels)
