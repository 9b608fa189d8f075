-- What a run of records leaves of bank, map and text. It only names what the rules say.
use Rattle.std.specs.Prelude.{◌≡◌, List, ℕ, length}
use Rattle.rules.specs.Base.{over}
use Rattle.rules.specs.Replay.{Carried, Piece, in_piece, replayed, lines, texts, first_records, records_in, ready}

-- n records are ready, their lines stand at the front and end at `end`, and what they carry on is m'
pub record RanTo (p : Piece) (input : List ℕ) (m : Carried) (out : List ℕ) (m' : Carried) (out' : List ℕ) (n end : ℕ) : Type 0 where
  pub count_is : n ≡ ready p (records_in input)
  pub carried_is : m' ≡ replayed (in_piece p) (first_records input n) m
  pub ends : end ≡ length (texts (lines (in_piece p) (first_records input n) m))
  pub text_is : out' ≡ over (texts (lines (in_piece p) (first_records input n) m)) out
