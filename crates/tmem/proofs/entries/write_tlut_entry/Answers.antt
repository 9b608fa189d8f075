-- `tmem::entries::write_tlut_entry` carries out its eight stores, a halfword at a time. Assumes nothing.
use mathlib.Core.Bool.{true}
use lib.ListN.{length}
use Rattle.tmem.specs.Part.{place_of}
use Rattle.tmem.proofs.Carry.{begin, next, finish}
use Rattle.tmem.proofs.PastEnd.{entry_tally}
use Rattle.tmem.proofs.EightBytes.{entry-taken}
use Rattle.tmem.proofs.Rows.{entry_is}
use Rattle.tmem.proofs.entries.write_tlut_entry.Goals as goal

pub loop-k-init : goal.loop-k-init
loop-k-init c = begin

pub loop-k-preserved : goal.loop-k-preserved
loop-k-preserved c = next c.loop-k.invariant c.loop-k-test.true c.store_pair.ensures

pub returns : goal.returns
returns c =
    let a = c.args in
    let word = c.source_word-word.ensures in
    let carried = finish c.loop-k.invariant c.loop-k-test.false in
    let stored = rw (word.bytes_are, entry_is a.at.0) at carried in
    record {
      carried = entry-taken a.src.now (place_of a.source true) a.at.0 stored;
      tally_is = entry_tally (length a.src.now) a.at.0 a.source _ word.made_up_is;
    }
