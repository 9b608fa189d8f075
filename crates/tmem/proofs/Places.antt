-- The stores of a word, a place at a time, and their number.
use mathlib.Core.Path.{◌≡◌, refl, ap, sym, ◌∙◌}
use mathlib.Core.Bool.{Bool, true, false, cond}
use mathlib.Core.List.{List, [], ◌∷◌}
use Prim.Native.Nat.{ℕ, ◌+◌, ◌-◌, ◌*◌, ◌%◌, ◌≤◌}
use native.Mathlib.Nat.{add-zero}
use native.Mathlib.Omega.{arith}
use lib.Bits.{bit_and, bit_xor, and_le_r, and_mod}
use lib.Dec.{eqb}
use lib.ListN.{length, get_or}
use Rattle.rules.specs.Base.{tab, tab_from, concat}
use Rattle.rules.specs.Load.{Store, store, LoadTile, halfword, base, first_spot, odd_spot, list4, splits, upper}
use Rattle.rules.specs.Load.{split_stores, whole_stores, word_stores}
use Rattle.rules.proofs.Loads.{split_by, either_shape}
use Rattle.tmem.specs.declared.memory.Memory.{Memory}
use Rattle.tmem.specs.Part.{Spots, half_stores, split_step, split_four, Carried}
use Rattle.tmem.proofs.Carry.{exchanged}
use Rattle.tmem.proofs.Indices.{start_below}

-- the four stores of a word's own bytes at the place of turn j, where the word goes to both halves
abbrev pub split_turn : ℕ → List ℕ → ℕ → ℕ → List Store
split_turn step l start j =
    store (get_or l (start + j) 0) (4 * j)
    ∷ store (get_or l (start + j) 0 + 2048) (4 * j + 3 - step)
    ∷ store (get_or l (start + j) 0 + 1) (4 * j + step)
    ∷ store (get_or l (start + j) 0 + 1 + 2048) (4 * j + 3)
    ∷ []

-- made a halfword at a time they come to the same, as the halves are far apart
pub split_turn_lem : {src : List ℕ} {m m' : Memory} (a step : ℕ) (l : List ℕ) (start j : ℕ)
    → a ≡ get_or l (start + j) 0
    → a % 2 ≡ 0
    → Carried src (split_four step a (4 * j)) m m'
    → Carried src (split_turn step l start j) m m'
split_turn_lem a step l start j e h p =
    let up : a + 1 + 2048 ≡ a + 2048 + 1 = omega arith in
    rw (← e, up) (exchanged _ _ _ _ (omega arith) p)

-- they are the rule's, where of each four bytes the low half takes the first and the one a step on
pub split_is : (t : LoadTile) (l : List ℕ) (start : ℕ) → concat (tab 2 (split_turn (split_step t) l start)) ≡ split_stores t l start
    (λ k. k)
unfolding split_stores concat tab tab_from
split_is t l start = go (eqb t.fmt 1)
  where
    go : (yuv : Bool) → concat (tab 2 (split_turn (cond yuv 2 1) l start)) ≡ split_by yuv l start (λ k. k)
    go true = rw (add-zero (get_or l (start + 0) 0), add-zero (get_or l (start + 1) 0))
    go false = rw (add-zero (get_or l (start + 0) 0), add-zero (get_or l (start + 1) 0))

-- the two stores at place k of a word that goes to one half
abbrev pub whole_turn : List ℕ → ℕ → ℕ → ℕ → List Store
whole_turn l high o k = half_stores (get_or l k 0 + high) (2 * bit_xor k o) (2 * bit_xor k o + 1)

-- the row's word may be wrapped at the bank's end: the bits that are left are those of 512 words
pub first_wraps : (b h : ℕ) → first_spot (b % 512) h ≡ first_spot b h
first_wraps b h =
    let same : (4 * (b % 512) + h) % 2048 ≡ (4 * b + h) % 2048 = omega arith in
    kept (4 * (b % 512) + h) ∙ ap (λ x. bit_and x 0x7fd) same ∙ sym (kept (4 * b + h))
  where
    kept : (x : ℕ) → bit_and x 0x7fd ≡ bit_and (x % 2048) 0x7fd
    kept x = omega (arith, and_mod x 0x7fd 11, and_le_r x 0x7fd)

-- the numbers of a word load, found
pub record Found (t : LoadTile) (s row h f o : ℕ) : Type 0 where
  pub half_is : h ≡ halfword t s
  pub first_is : f ≡ first_spot (base t row) h
  pub odd_is : o ≡ odd_spot row

module _ {t : LoadTile} {s row h f o : ℕ} (w : Found t s row h f o) where
  pub spots : Spots f o
  spots =
      let x : ℕ = 4 * base t row + h in
      let low : f % 4 ≡ bit_and (x % 4) 1 = rw w.first_is (and_mod x 0x7fd 2) in
      record {
        first_in = omega (arith, w.first_is, and_le_r x 0x7fd);
        first_low = omega (arith, low, and_le_r (x % 4) 1);
        odd_in = omega (arith, w.odd_is);
        odd_even = omega (arith, w.odd_is);
      }

  pub start_within : bit_xor (bit_and h 2) o ≤ 2
  start_within = rw w.odd_is (start_below h (row % 2) (omega arith))

  pub split_word : (from : ℕ → ℕ) → splits t ≡ true → split_stores t (list4 f o) (bit_xor (bit_and h 2) o) from ≡ word_stores t s row from
  unfolding word_stores
  split_word from e = rw (w.first_is, w.odd_is, w.half_is, e)

  pub whole_word : (from : ℕ → ℕ) → splits t ≡ false → whole_stores (list4 f o) (upper f) o from ≡ word_stores t s row from
  unfolding word_stores
  whole_word from e = rw (w.first_is, w.odd_is, w.half_is, e)

-- a word is eight stores
pub word_length : (t : LoadTile) (s row : ℕ) (from : ℕ → ℕ) → length (word_stores t s row from) ≡ 8
unfolding split_stores whole_stores concat tab tab_from
word_length t s row from = either_shape t s row from (λ l. length l ≡ 8) (λ l start. refl) (λ l high. refl)
