-- `tmem::word::write_load_word` takes a word from the source and stores it in one of the two shapes, by the rule's test. Assumes nothing.
use mathlib.Core.Path.{refl, sym, ◌∙◌}
use Prim.Native.Nat.{◌*◌, ◌%◌}
use native.Mathlib.Omega.{arith}
use lib.ListN.{length}
use Rattle.rules.specs.Load.{base}
use Rattle.tmem.specs.Part.{load_of, place_of}
use Rattle.tmem.proofs.Places.{first_wraps, Found, spots, start_within, split_word, whole_word}
use Rattle.tmem.proofs.PastEnd.{word_tally}
use Rattle.tmem.proofs.EightBytes.{split_taken, whole_taken}
use Rattle.tmem.proofs.word.write_load_word.Goals.{After-first_halfword-first}
use Rattle.tmem.proofs.word.write_load_word.Goals as goal

-- the word's numbers, once they are found
found : (c : After-first_halfword-first) → let a = c.args in
    Found (load_of a.tile) a.s a.t c.column_halfword-column.result.number c.first_halfword-first.result.number (a.t % 2 * 2)
found c =
    let a = c.args in
    let wraps = first_wraps (base (load_of a.tile) a.t) c.column_halfword-column.result.number in
    record {
      half_is = c.column_halfword-column.ensures;
      first_is = c.first_halfword-first.ensures ∙ rw c.row_word.ensures wraps;
      odd_is = refl;
    }

pub invariant_of-four : goal.invariant_of-four
invariant_of-four c = record { spots = spots (found (goal.at.invariant_of-four c).After-first_halfword-first) }

pub invariant_of-four-else-splits : goal.invariant_of-four-else-splits
invariant_of-four-else-splits c =
    record { spots = spots (found (goal.at.invariant_of-four-else-splits c).After-first_halfword-first) }

pub write_split_word-requires : goal.write_split_word-requires
write_split_word-requires c =
    record { start_bound = start_within (found (goal.at.write_split_word-requires c).After-first_halfword-first) }

pub returns-then-splits : goal.returns-then-splits
returns-then-splits c =
    let a = c.args in
    let from = place_of a.source a.replicate in
    let word = c.source_word-word.ensures in
    let stores = rw word.bytes_are at c.write_split_word.ensures in
    let is = split_word (found (goal.at.returns-then-splits c).After-first_halfword-first) from (sym c.splits.ensures ∙ c.if-splits.true) in
    record {
      carried = rw (← is) (split_taken a.src.now from _ _ _ stores);
      tally_is = word_tally (length a.src.now) (load_of a.tile) a.s a.t from _ word.made_up_is;
    }

pub returns-else-splits : goal.returns-else-splits
returns-else-splits c =
    let a = c.args in
    let from = place_of a.source a.replicate in
    let word = c.source_word-word.ensures in
    let stores = rw word.bytes_are at c.write_whole_word.ensures in
    let is = whole_word (found (goal.at.returns-else-splits c).After-first_halfword-first) from (sym c.splits.ensures ∙ c.if-splits.false)
    in
    record {
      carried = rw (← is) (whole_taken a.src.now from _ _ (a.t % 2) (omega arith) stores);
      tally_is = word_tally (length a.src.now) (load_of a.tile) a.s a.t from _ word.made_up_is;
    }
