-- `tmem::load_tlut::HardwareLoad::write` is a run of words whose pairs are replicated. Assumes nothing.
use Prim.Native.Nat.{◌≤◌}
use native.Mathlib.Omega.{arith}
use Rattle.tmem.specs.Part.{load_of}
use Rattle.tmem.proofs.Runs.{steps_within, tlut_paced, tlut_is}
use Rattle.tmem.proofs.load_tlut.HardwareLoad.write.Goals as goal

pub write_words-requires : goal.write_words-requires
write_words-requires c =
    let s = c.args.self in
    let few : c.steps-steps.result ≤ 1024 = rw c.steps-steps.ensures (steps_within s.image_siz s.count s.image_in s.count_in) in
    record { paced = rw c.advance.ensures (tlut_paced s.image_siz); words_bound = omega (arith, few) }

pub returns : goal.returns
returns c =
    let s = c.args.self in
    let is = tlut_is (load_of c.args.tile) s.image_siz s.count in
    rw (← is, ← c.steps-steps.ensures, ← c.advance.ensures) c.write_words.ensures
