-- `tmem::load_tile::TileLoad::write_row` is a run of words. Assumes nothing.
use Rattle.tmem.specs.Part.{load_of}
use Rattle.tmem.proofs.Runs.{row_is}
use Rattle.tmem.proofs.load_tile.TileLoad.write_row.Goals as goal

pub returns : goal.returns
returns c =
    let a = c.args in
    let is = row_is (load_of a.tile) a.self.image_siz a.self.words a.self.stride a.row c.of_image-image.ensures in
    rw (← is, ← c.of_image-run.ensures) c.write_words.ensures
