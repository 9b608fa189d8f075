-- `listing::list::put_records` writes a record's text a turn, where the ones before it end. Assumes nothing.
use Prim.Native.Nat.{◌≤◌, ◌*◌}
use lib.ListN.{take}
use Rattle.rules.specs.Lister.{line_room}
use Rattle.listing.specs.View.{record_texts}
use Rattle.decimal.proofs.Writes.{Wrote}
use Rattle.listing.proofs.list.put_records.Given as goal

abbrev pub invariant-loop-record : goal.invariant-loop-record
invariant-loop-record l =
    record {
      near : l.at ≤ line_room * l.record-index;
      wrote : Wrote (record_texts (take l.record-index l.records)) l.initial.out l.at l.out;
    }
