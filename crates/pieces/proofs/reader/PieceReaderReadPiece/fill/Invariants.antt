-- `pieces::reader::PieceReader::fill` puts the bytes at the front of the piece.
use Rattle.std.proofs.Common.{length, ◌≤◌}
use Rattle.pieces.proofs.reader.PieceReaderReadPiece.fill.Given as goal

abbrev pub invariant-loop : goal.invariant-loop
invariant-loop g l = l.size ≤ length l.piece
