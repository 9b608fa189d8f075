-- `tmem::words::write_words` carries out the words of a run, one after the other. Assumes nothing.
use mathlib.Core.Path.{refl}
use native.Mathlib.Omega.{arith}
use Rattle.tmem.specs.Run.{run_stores}
use Rattle.tmem.proofs.Carry.{begin_count, next_count, finish_count, count_within, on_loan}
use Rattle.tmem.proofs.Places.{word_length}
use Rattle.tmem.proofs.words.write_words.Goals as goal

pub loop-word-init : goal.loop-word-init
loop-word-init c = begin_count c.none-tally.ensures

pub plus-tally-requires : goal.plus-tally-requires
plus-tally-requires c =
    let word = rw c.word-at.ensures.value at c.write_load_word-more.ensures in
    let most = c.requires.words_bound in
    let few = count_within c.loop-word.invariant c.loop-word-test.true word 8 2048 8 (λ w. word_length _ _ _ _) most (omega arith) in
    record { count_bound = omega (arith, few.0); made_up_bound = omega (arith, few.1) }

pub loop-word-preserved : goal.loop-word-preserved
loop-word-preserved c =
    next_count c.loop-word.invariant c.loop-word-test.true (rw c.word-at.ensures.value at c.write_load_word-more.ensures)
    c.plus-tally.ensures

pub returns : goal.returns
unfolding run_stores
returns c = on_loan c.args.memory.now refl refl refl refl (finish_count c.loop-word.invariant c.loop-word-test.false)
