-- The room of the lines of what the lister reads at a time, sixteen records, with a torn tail's.
use Rattle.std.specs.Prelude.{ℕ, ◌*◌}
use Rattle.rules.specs.Lister.{line_room}

abbrev pub piece_room : ℕ
piece_room = 17 * line_room
