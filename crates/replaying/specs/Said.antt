-- What a record says, as the declared types have it. It only names what the rules say.
use Rattle.std.specs.Prelude.{◌≡◌, true, false, List, [], ◌∷◌, ℕ, ◌+◌, ◌≤◌, length, Result, Ok, Err}
use Rattle.rules.specs.Load.{load_tile, following, ordinary}
use Rattle.rules.specs.Calls.{number_spent, left_by}
use Rattle.rules.specs.Refusal.{◌if◌, Outcome, call_or}
use Rattle.rules.specs.Replay.{lane_in, tile_in, mode_in, image_in, offset_in, size_in, asks_key, stores_in, outside_in, Piece, piece}
use Rattle.rdp.specs.Refused.{number_of}
use Rattle.rdp.specs.View.{tile_of}
use Rattle.rdp.specs.declared.answer.Replayed.{Replayed}
use Rattle.rdp.specs.declared.refusal.Refusal.{Refusal}
use Rattle.tmem.specs.Asked.{asked_outside, asked_stores}
use Rattle.tmem.specs.declared.asked.Asked.{Asked}
use Rattle.texdec.specs.declared.pair.Picture.{Picture}
use Rattle.replaying.specs.declared.loading.Loading.{Loading}
use Rattle.replaying.specs.declared.asks.Asks.{Asks}
use Rattle.replaying.specs.declared.asks.Asks.TheVariants.{Key, Load}
use Rattle.replaying.specs.declared.piece.Piece.{Piece as Declared}

-- the record is a load, which is asked for that
pub record SaysAsked (r : List ℕ) (asked : Asked) : Type 0 where
  pub no_key : asks_key r ≡ false
  pub outside_is : asked_outside (image_in r) asked ≡ outside_in r
  pub stores_are : asked_stores (load_tile (tile_in r)) (image_in r) asked ≡ stores_in r

-- it asks for that picture's key
pub record SaysKey (r : List ℕ) (p : Picture) : Type 0 where
  pub key : asks_key r ≡ true
  pub tile_is : tile_of p.tile ≡ tile_in r
  pub mode_is : p.tlut ≡ mode_in r
  pub lane_is : p.lane ≡ lane_in r

-- it is that load, with that part of the companion file
pub record SaysLoad (r : List ℕ) (l : Loading) : Type 0 where
  pub no_key : asks_key r ≡ false
  pub stores_are : asked_stores (load_tile (tile_of l.tile)) l.image l.asked ≡ stores_in r
  pub offset_is : l.offset ≡ offset_in r
  pub size_is : l.size ≡ size_in r

abbrev pub Says : List ℕ → Asks → Type 0
Says r (Key p) = SaysKey r p
Says r (Load l) = SaysLoad r l

-- what a load answers and leaves, after a load of the number `last`
abbrev pub load_done : Loading → List ℕ → ℕ → List ℕ → List ℕ → List ℕ → Outcome
load_done l src last bank map reasons =
    call_or ((18 if number_spent last) ∷ [])
    (length (asked_stores (load_tile (tile_of l.tile)) l.image l.asked) ∷ following last ∷ [])
    (0 ∷ last ∷ [])
    (left_by src (asked_stores (load_tile (tile_of l.tile)) l.image l.asked) (following last) ordinary bank map reasons)
    (bank ∷ map ∷ reasons ∷ [])

-- the two numbers of a record's line
abbrev pub numbers_of : Result Replayed Refusal → List ℕ
numbers_of (Ok a) = 0 ∷ a.count ∷ []
numbers_of (Err e) = number_of e ∷ 0 ∷ []

-- the last number after it
abbrev pub number_after : Result Replayed Refusal → ℕ → ℕ
number_after (Ok a) last = a.number
number_after (Err e) last = last

-- the piece of the file that is at hand, and that a part is in it
abbrev pub piece_of : Declared → Piece
piece_of p = piece p.end p.start p.held.now

abbrev pub Within : Declared → ℕ → ℕ → Type 0
Within p offset size = (p.start ≤ offset) × (offset + size ≤ p.start + length p.held.now)
