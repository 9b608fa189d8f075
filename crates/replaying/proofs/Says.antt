-- What a record's load is asked for, by its kind; and its picture.
use mathlib.Core.Path.{◌≡◌, ap, subst, ◌∙◌}
use mathlib.Core.Bool.{true}
use mathlib.Core.List.{List, []}
use Prim.Native.Nat.{ℕ}
use borrow.Author.Tests.{eq-eqb}
use Rattle.std.specs.Prelude.{Result, Ok, Err, IfOk}
use Rattle.rules.specs.Tile.{Tile}
use Rattle.rules.specs.Refusal.{first}
use Rattle.rules.specs.Calls.{number_tests}
use Rattle.rules.specs.Load.{load_tile}
use Rattle.rules.specs.Replay.{kind_in, tile_in, mode_in, lane_in, image_in, size_in, asks_key, stores_in, outside_in}
use Rattle.rules.specs.Replay.{dxt_in, words_in, rows_in, count_in, stride_in}
use Rattle.tmem.specs.Asked.{asked_outside, picked}
use Rattle.tmem.proofs.Picked.{picked-says}
use Rattle.tmem.specs.declared.asked.Asked.{Asked}
use Rattle.tmem.specs.declared.asked.Asked.TheVariants.{Block, Tile as TileLoad}
use Rattle.rdp.specs.View.{tile_of}
use Rattle.rdp.specs.declared.tile.TileDescriptor.{TileDescriptor}
use Rattle.rdp.specs.declared.refusal.Refusal.{Refusal}
use Rattle.texdec.specs.declared.pair.Picture.{Picture}
use Rattle.replaying.specs.Said.{SaysAsked, SaysKey, SaysLoad, Says}
use Rattle.replaying.specs.declared.asks.Asks.{Asks}
use Rattle.replaying.specs.declared.asks.Asks.TheVariants.{Key, Load}
use Rattle.replaying.specs.declared.loading.Loading.{Loading}

module _ (r : List ℕ) where
  pub says_block : (dxt words : ℕ) → kind_in r ≡ 0 → dxt ≡ dxt_in r → words ≡ words_in r → SaysAsked r (Block dxt words)
  unfolding outside_in stores_in
  says_block dxt words k d w =
      record { no_key = rw k; outside_is = rw (d, w, eq-eqb _ _ k); stores_are = rw (d, w, eq-eqb _ _ k) }

  module _ (rows stride : ℕ) (e : rows ≡ rows_in r) (s : stride ≡ stride_in r) where
    pub says-tile : (words : ℕ) → kind_in r ≡ 1 → words ≡ words_in r → SaysAsked r (TileLoad rows words stride)
    unfolding outside_in stores_in
    says-tile words k w =
        record { no_key = rw k; outside_is = rw (k, e, s, w); stores_are = rw (k, e, s, w) }

    pub says-tlut : (image count : ℕ) → kind_in r ≡ 2 → image ≡ image_in r → count ≡ count_in r → SaysAsked r
        (picked image count rows stride)
    unfolding outside_in stores_in
    says-tlut image count k m n =
        let p = picked-says (load_tile (tile_in r)) (image_in r) (count_in r) (rows_in r) (stride_in r) in
        rw (e, s, m, n) record { no_key = rw k; outside_is = rw k p.0; stores_are = rw k p.1 }

-- the picture that was made of what was read is the record's
pub says_key : (r : List ℕ) (x : Result Picture Refusal) (tile : TileDescriptor) (mode lane : ℕ) → tile_of tile ≡ tile_in r
    → mode ≡ mode_in r
    → lane ≡ lane_in r → asks_key r ≡ true → IfOk x (λ p. (p.tile ≡ tile) × (p.tlut ≡ mode) × (p.lane ≡ lane)) → IfOk x (SaysKey r)
says_key r (Ok p) tile mode lane e f g k h =
    record { key = k; tile_is = ap tile_of h.0 ∙ e; mode_is = h.1 ∙ f; lane_is = h.2 ∙ g }
says_key r (Err n) tile mode lane e f g k h = tt

-- the tests of what was read of a load are the record's
pub same_numbers : (r : List ℕ) (size image : ℕ) (t : Tile) (asked : Asked) → size ≡ size_in r → t ≡ tile_in r → image ≡ image_in r
    → SaysAsked r asked → first (number_tests size t image (asked_outside image asked) [])
    ≡ first (number_tests (size_in r) (tile_in r) (image_in r) (outside_in r) [])
same_numbers r size image t asked e f g h = rw (e, f, g, h.outside_is)

-- what is said of what a record asks for, by which it is
pub said_key : (r : List ℕ) (a : Asks) (p : Picture) → a ≡ Key p → Says r a → SaysKey r p
said_key r a p e s = subst (Says r) e s

pub said_load : (r : List ℕ) (a : Asks) (l : Loading) → a ≡ Load l → Says r a → SaysLoad r l
said_load r a l e s = subst (Says r) e s
