-- `replaying::run::replay_ready` replays a record a turn, and writes its line where the ones before it end. Assumes nothing.
use mathlib.Core.Path.{◌≡◌}
use Prim.Native.Nat.{◌*◌, ◌≤◌}
use lib.ListN.{drop}
use Rattle.std.specs.Slice.Iter.{chunks_rest, chunks_size}
use Rattle.rules.specs.Base.{record_of}
use Rattle.rules.specs.Replay.{replay_size, replay_room, carried, record_count, first_records}
use Rattle.replaying.specs.Said.{piece_of}
use Rattle.replaying.proofs.Ready.{Ahead}
use Rattle.replaying.proofs.Runs.{Sofar}
use Rattle.replaying.proofs.run.replay_ready.Given as goal

abbrev pub invariant-loop-bytes : goal.invariant-loop-bytes
invariant-loop-bytes l =
    record {
      rest : chunks_rest l.bytes-iterator ≡ drop (l.run.records * replay_size) l.input;
      size : chunks_size l.bytes-iterator ≡ replay_size;
      few : l.run.records ≤ record_count l.input;
      near : l.run.end ≤ replay_room * l.run.records;
      ahead : Ahead (piece_of l.piece) (record_of replay_size l.input) (record_count l.input) l.run.records;
      sofar : Sofar (piece_of l.piece) (first_records l.input l.run.records)
          (carried l.initial.bank l.initial.written l.initial.reasons l.last) l.initial.out
          (carried l.bank l.written l.reasons l.run.number) l.out l.run.end;
    }
