-- A word's tally: how many of its bytes are past the source's end, without counting them one by one, and that its stores have it.
use mathlib.Core.Path.{◌≡◌, sym, ◌∙◌}
use mathlib.Core.Bool.{true, false}
use Prim.Native.Nat.{ℕ, zero, suc, ◌+◌, ◌-◌, ◌*◌, ◌%◌, ◌<◌}
use native.Mathlib.Numerals.{add-one}
use native.Mathlib.Omega.{arith}
use native.Mathlib.Decide.{dec_lt}
use lib.Dec.{leb}
use borrow.Author.Tests.{le-leb, lt-leb}
use Rattle.rules.specs.Base.{one, tab, tab_from, how_many}
use Rattle.rules.specs.Load.{LoadTile, store, word_stores, word_made_up}
use Rattle.rules.proofs.Tables.{length-tab, tab_none, tab-more}
use Rattle.rules.proofs.MadeUp.{how_many-append, word_made_up_lem, entry-made_up}
use Rattle.tmem.specs.Part.{place_of, tally_of}
use Rattle.tmem.proofs.Places.{word_length}

-- of n bytes from p on
places_past : (size p n : ℕ) → how_many (λ k. leb size (p + k)) (tab n (λ k. k)) ≡ n - (size - p)
unfolding how_many
places_past size p zero = rw (tab_none {A = ℕ} (λ k. k)) (omega arith)
places_past size p (suc n) =
    rw (← add-one, tab-more {A = ℕ} n (λ k. k), how_many-append, places_past size p n) (go (dec_lt (p + n) size))
  where
    go : Dec (p + n < size) → (n - (size - p)) + (one (leb size (p + n)) + 0) ≡ (n + 1) - (size - p)
    go (yes h) = rw (lt-leb size (p + n) h) (omega (arith, h))
    go (no h) = rw (le-leb size (p + n) (omega (arith, h))) (omega (arith, h))

-- a word's eight follow each other, or are a pair four times over
pub word_past : (size source : ℕ) → word_made_up size (place_of source false) ≡ 8 - (size - source)
unfolding word_made_up
word_past size source = places_past size source 8

pub pair_past : (size source : ℕ) → word_made_up size (place_of source true) ≡ 4 * (2 - (size - source))
unfolding word_made_up how_many tab tab_from
pair_past size source = omega (arith, places_past size source 2)

-- the tally of a word load's stores, and of an entry's
pub word_tally : (size : ℕ) (t : LoadTile) (s row : ℕ) (from : ℕ → ℕ) (made : ℕ) → made ≡ word_made_up size from
    → record { count = 8; made_up = made } ≡ tally_of size (word_stores t s row from)
word_tally size t s row from made e =
    λ i. record { count = sym (word_length t s row from) i; made_up = (e ∙ sym (word_made_up_lem size t s row from)) i }

pub entry_tally : (size at source made : ℕ) → made ≡ word_made_up size (place_of source true)
    → record { count = 8; made_up = made } ≡ tally_of size (tab 8 (λ k. store (at + k) (source + k % 2)))
entry_tally size at source made e =
    λ i. record {
      count = sym (length-tab 8 (λ k. store (at + k) (source + k % 2))) i;
      made_up = (e ∙ sym (entry-made_up size at source)) i;
    }
