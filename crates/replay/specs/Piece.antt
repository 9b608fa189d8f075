-- What the replay reads at a time, 1,365 records, the room of their lines, and that of the companion file's bytes.
use Rattle.std.specs.Prelude.{ℕ, ◌*◌}
use Rattle.rules.specs.Replay.{replay_room}

abbrev pub piece_room : ℕ
piece_room = 1365 * replay_room

abbrev pub held_size : ℕ
held_size = 65536
