-- `replay::Replayer::replay_all` keeps room for a piece's lines after the text.
use Rattle.std.proofs.Common.{◌+◌, ◌≤◌}
use Rattle.pieces.specs.Text.{text_size}
use Rattle.replay.specs.Piece.{piece_room}
use Rattle.replay.proofs.Replayer.replay_all.Given as goal

abbrev pub invariant-loop : goal.invariant-loop
invariant-loop g l = l.self.text.end + piece_room ≤ text_size
