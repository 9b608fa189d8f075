-- `decoder::picture::picture_alone` answers and leaves the picture without its trail. Assumes nothing.
use Rattle.decoder.proofs.Outcomes.{alone}
use Rattle.rdp.specs.View.{tile_of}
use Rattle.decoder.proofs.picture.picture_alone.Goals as goal

pub returns : goal.returns
returns c =
    let a = c.args in
    alone a.lookup a.bank.now (tile_of a.tile) a.tlut_fmt a.lane a.out.now _ _ _ _
    c.picture_of.ensures
