-- A record's part in the piece of the companion file that is at hand.
use mathlib.Core.Path.{◌≡◌, refl, sym, ◌∙◌}
use mathlib.Core.Bool.{Bool, true, false, not, ◌&&◌}
use mathlib.Core.List.{List, []}
use Prim.Native.Nat.{ℕ, ◌+◌, ◌-◌, ◌<◌, ◌≤◌, min}
use native.Mathlib.Omega.{arith}
use native.Mathlib.Decide.{dec_lt}
use lib.Dec.{ltb}
use lib.ListN.{length, take, drop}
use lib.Seq.{take_all}
use borrow.Author.Tests.{lt-ltb, le-ltb, ne_eqb}
use Rattle.rules.specs.Refusal.{first}
use Rattle.rules.specs.Replay.{offset_in, size_in, asks_key, record_tests, Carried, outcome, part_of}
use Rattle.rules.specs.Replay.{Piece, takes_part, at_hand, part_in, in_piece}

module _ (p : Piece) (r : List ℕ) where
  -- a record that takes no part
  module _ (none : takes_part p.end r ≡ false) where
    pub none_missing : at_hand p r ≡ true
    unfolding at_hand
    none_missing = rw none

    pub none_taken : (m : Carried) → outcome p.end [] r m ≡ in_piece p r m
    unfolding in_piece part_in
    none_taken m = rw none

  -- one that takes its part
  module _ (takes : takes_part p.end r ≡ true) where
    pub part_held : p.start ≤ offset_in r → offset_in r + size_in r ≤ p.start + length p.bytes → at_hand p r ≡ true
    unfolding at_hand
    part_held h k = rw (takes, le-ltb _ _ h, le-ltb _ _ k)

    pub part_missing : ((p.start ≤ offset_in r) × (offset_in r + size_in r ≤ p.start + length p.bytes) → ⊥) → at_hand p r ≡ false
    unfolding at_hand
    part_missing h = rw takes (go (dec_lt (offset_in r) p.start) (dec_lt (p.start + length p.bytes) (offset_in r + size_in r)))
      where
        go : Dec (offset_in r < p.start) → Dec (p.start + length p.bytes < offset_in r + size_in r)
            → (not (ltb (offset_in r) p.start) && not (ltb (p.start + length p.bytes) (offset_in r + size_in r))) ≡ false
        go (yes l) k = rw (lt-ltb _ _ l)
        go (no l) (yes k) = rw (lt-ltb _ _ k, le-ltb (offset_in r) p.start (omega (arith, l)))
        go (no l) (no k) = absurd (h (omega (arith, l), omega (arith, k)))

    pub part_taken : (m : Carried)
        → outcome p.end (take (size_in r) (drop (offset_in r - p.start) p.bytes)) r m ≡ in_piece p r m
    unfolding in_piece part_in
    part_taken m = rw takes

and_false : (b : Bool) → (b && false) ≡ false
and_false true = refl
and_false false = refl

-- which of them a record is
module _ (end : ℕ) (r : List ℕ) where
  pub refused_takes : (n : ℕ) → n ≡ first (record_tests end r) → (n ≡ 0 → ⊥) → takes_part end r ≡ false
  unfolding takes_part
  refused_takes n e h = rw (← e, ne_eqb _ _ h)

  pub key_takes : asks_key r ≡ true → takes_part end r ≡ false
  unfolding takes_part
  key_takes k = rw k (and_false _)

  pub load_takes : 0 ≡ first (record_tests end r) → asks_key r ≡ false → takes_part end r ≡ true
  unfolding takes_part
  load_takes e k = rw (← e, k)

-- the stated bytes of a part, as far as it has them
pub named_part : (r part : List ℕ) (n : ℕ) → n ≡ min (size_in r) (length part) → take n part ≡ part_of r part
named_part r part n e = go (dec_lt (size_in r) (length part))
  where
    go : Dec (size_in r < length part) → take n part ≡ part_of r part
    go (yes l) = let s : n ≡ size_in r = omega arith in rw s
    go (no l) =
        let a : length part ≤ n = omega (arith, l) in
        let b : length part ≤ size_in r = omega (arith, l) in
        take_all _ _ a ∙ sym (take_all _ _ b)
