-- `tmem::load_block::BlockLoad::write` is a run of words. Assumes nothing.
use native.Mathlib.Omega.{arith}
use Rattle.tmem.specs.Part.{load_of}
use Rattle.tmem.proofs.Runs.{image_paced, block_is}
use Rattle.tmem.proofs.Within.{block_in}
use Rattle.tmem.proofs.load_block.BlockLoad.write.Goals as goal

pub write_words-requires : goal.write_words-requires
write_words-requires c =
    let s = c.args.self in
    let w = block_in s.dxt s.words s.in_range in
    let paced = image_paced s.image_siz 0 s.dxt 0 (omega (arith, w.0)) (omega arith) in
    record { paced = rw c.of_image-run.ensures paced; words_bound = w.1 }

pub returns : goal.returns
returns c =
    let s = c.args.self in
    let is = block_is (load_of c.args.tile) s.image_siz s.dxt s.words c.of_image-image.ensures in
    rw (← is, ← c.of_image-run.ensures) c.write_words.ensures
