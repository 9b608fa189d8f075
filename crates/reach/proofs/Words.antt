-- Laws of the places of one word: marking them, or looking for one, is one step on the word's byte.
use mathlib.Core.Path.{◌≡◌, refl, ap, ap₂, sym, ◌∙◌}
use mathlib.Core.Bool.{Bool, true, false, ◌||◌, or-false}
use mathlib.Core.List.{List}
use Prim.Native.Nat.{ℕ, zero, suc, ◌+◌, ◌*◌, ◌^◌, ◌<◌}
use native.Mathlib.Omega.{arith}
use native.Mathlib.Numerals.{add-one}
use lib.Bits.{bit_or}
use Rattle.rules.specs.Base.{tab, concat, any, marks, is_written}
use Rattle.rules.specs.Tile.{palette_base}
use Rattle.rules.proofs.Tables.{concat-more}
use Rattle.rules.proofs.Maps.{marks-append}
use Rattle.reach.specs.Words.{ors, joined, meets, low_words, twin, word_joined, word_meets}
use Rattle.reach.proofs.Joined.{marks_none, none_yet, any-more, any_search}
use Rattle.reach.proofs.Bytes.{joined_none, joined-more, joined_swap, marked_word, meets_none, meets-more, is_written_word}

-- where place k does to a map what J does with the bits h k
module _ (J : List ℕ → ℕ → List ℕ) (none : (l : List ℕ) → J l 0 ≡ l) (more : (l : List ℕ) (a b : ℕ) → J (J l a) b ≡ J l (bit_or a b))
    (f : ℕ → List ℕ) (h : ℕ → ℕ) (m : List ℕ) where
  pub part_marks : (n : ℕ) → ((k : ℕ) → k < n → (l : List ℕ) → marks l (f k) ≡ J l (h k)) → marks m (concat (tab n f)) ≡ J m (ors n h)
  unfolding ors
  part_marks zero e = marks_none m f ∙ sym (none m)
  part_marks (suc n) e =
      rw (← add-one n, concat-more, marks-append, part_marks n (λ k q. e k (omega arith)), e n (omega arith), more)

-- where place k has what the test t finds in the bits h k
module _ (p : ℕ → Bool) (t : ℕ → Bool) (none : t 0 ≡ false) (more : (a b : ℕ) → t (bit_or a b) ≡ (t a || t b))
    (f : ℕ → List ℕ) (h : ℕ → ℕ) where
  part_any : (n : ℕ) → ((k : ℕ) → k < n → any p (f k) ≡ t (h k)) → any p (concat (tab n f)) ≡ t (ors n h)
  unfolding ors
  part_any zero e = none_yet (any_search p) f ∙ sym none
  part_any (suc n) e = rw (← add-one n, any-more p f n, part_any n (λ k q. e k (omega arith)), e n (omega arith), more)

-- the same for the word w, with the one that it stands for
module _ (w : ℕ) where
  apart : w ≡ w + low_words → ⊥
  apart e = omega arith

  word_none : (twice : Bool) (m : List ℕ) → word_joined twice m w 0 ≡ m
  unfolding word_joined
  word_none true m = joined_none _ _ ∙ joined_none m w
  word_none false m = joined_none m w

  word_more : (twice : Bool) (m : List ℕ) (a b : ℕ)
      → word_joined twice (word_joined twice m w a) w b ≡ word_joined twice m w (bit_or a b)
  unfolding word_joined
  word_more true m a b =
      ap (λ l. joined l (w + low_words) b)
      (joined_swap (joined m w a) (w + low_words) w a b (λ e. apart (sym e)) ∙ ap (λ l. joined l (w + low_words) a) (joined-more m w a b))
      ∙ joined-more (joined m w (bit_or a b)) (w + low_words) a b
  word_more false m a b = joined-more m w a b

  upper : (s : ℕ) → 8 * w + s + palette_base ≡ 8 * (w + low_words) + s
  upper s = omega arith

  word_twin : (twice : Bool) (s : ℕ) → s < 8 → (m : List ℕ) → marks m (twin twice (8 * w + s)) ≡ word_joined twice m w (2 ^ s)
  unfolding word_joined twin marks
  word_twin true s h m = rw (upper, marked_word _ w s h, marked_word _ (w + low_words) s h)
  word_twin false s h m = marked_word m w s h

  -- n places of the word, place k at bit g k
  pub word_marks : (twice : Bool) (g : ℕ → ℕ) (m : List ℕ) (n : ℕ) → ((k : ℕ) → k < n → g k < 8)
      → marks m (concat (tab n (λ k. twin twice (8 * w + g k)))) ≡ word_joined twice m w (ors n (λ k. 2 ^ g k))
  word_marks twice g m n e =
      part_marks (λ l. word_joined twice l w) (word_none twice) (word_more twice) (λ k. twin twice (8 * w + g k)) (λ k. 2 ^ g k) m n
      (λ k h l. word_twin twice (g k) (e k h) l)

  module _ (m : List ℕ) where
    found_none : (twice : Bool) → word_meets twice m w 0 ≡ false
    unfolding word_meets
    found_none true = rw (meets_none m w) (meets_none m (w + low_words))
    found_none false = meets_none m w

    found_more : (twice : Bool) (a b : ℕ) → word_meets twice m w (bit_or a b) ≡ (word_meets twice m w a || word_meets twice m w b)
    unfolding word_meets
    found_more true a b =
        ap₂ ◌||◌ (meets-more m w a b) (meets-more m (w + low_words) a b)
        ∙ across (meets m w a) (meets m w b) (meets m (w + low_words) a) (meets m (w + low_words) b)
      where
        across : (p q r s : Bool) → ((p || q) || (r || s)) ≡ ((p || r) || (q || s))
        across true q r s = refl
        across false true true s = refl
        across false true false s = refl
        across false false r s = refl
    found_more false a b = meets-more m w a b

    found_twin : (twice : Bool) (s : ℕ) → s < 8 → any (is_written m) (twin twice (8 * w + s)) ≡ word_meets twice m w (2 ^ s)
    unfolding word_meets twin any
    found_twin true s h =
        rw (upper, is_written_word m w s h, is_written_word m (w + low_words) s h, or-false (meets m (w + low_words) (2 ^ s)))
    found_twin false s h = rw (is_written_word m w s h) (or-false _)

    pub word_any : (twice : Bool) (g : ℕ → ℕ) (n : ℕ) → ((k : ℕ) → k < n → g k < 8)
        → any (is_written m) (concat (tab n (λ k. twin twice (8 * w + g k)))) ≡ word_meets twice m w (ors n (λ k. 2 ^ g k))
    word_any twice g n e =
        part_any (is_written m) (word_meets twice m w) (found_none twice) (found_more twice) (λ k. twin twice (8 * w + g k))
        (λ k. 2 ^ g k) n (λ k h. found_twin twice (g k) (e k h))
