-- Laws of the question for a reason: a place of a word, a word that has none, and the reach with the palette after it.
use mathlib.Core.Path.{◌≡◌, refl, ap, sym, ◌∙◌}
use mathlib.Core.Bool.{Bool, true, false}
use mathlib.Core.List.{List}
use Prim.Native.Nat.{ℕ, zero, suc, ◌+◌, ◌*◌, ◌<◌}
use native.Mathlib.Omega.{arith}
use lib.Bits.{bit_and, and_zero_r}
use lib.ListN.{get_or}
use borrow.Author.Tests.{lt-leb}
use Rattle.rules.specs.Tile.{Tile, palette_base}
use Rattle.rules.specs.Reach.{reach, palette_order, or_else, first_reason, rejection}
use Rattle.reach.specs.Words.{eight_bytes, word_eight, twin}
use Rattle.reach.specs.declared.span.Span.{Span}
use Rattle.reach.specs.Span.{both, word_count, word_in, places_of, byte_of, lanes_in, eight_in, reached, place_reached, word_reached}
use Rattle.reach.proofs.Joined.{none_yet, none_all, first_found, reason_search}
use Rattle.reach.proofs.Bytes.{and-or, or_zero, zero_lane}
use Rattle.reach.proofs.Spans.{places_some, byte-lt, reached_words}

or_none : (x : ℕ) → or_else x 0 ≡ x
or_none zero = refl
or_none (suc x) = refl

module _ (m : List ℕ) where
  -- one address, and one with the address that it stands for
  once : (a : ℕ) → get_or m a 0 ≡ first_reason m (twin false a)
  unfolding first_reason twin
  once a = sym (or_none (get_or m a 0))

  doubly : (a : ℕ) → or_else (get_or m a 0) (get_or m (a + palette_base) 0) ≡ first_reason m (twin true a)
  unfolding first_reason twin
  doubly a = rw (or_none (get_or m (a + palette_base) 0))

  module _ (s : Span) (w : ℕ) where
    -- the address of place k
    abbrev at : ℕ → ℕ
    at k = 8 * word_in s w + byte_of s k

    pub place_once : (k : ℕ) → (both s.part) ≡ false → get_or m (at k) 0 ≡ first_reason m (place_reached s w k)
    unfolding place_reached
    place_once k h = rw h (once (at k))

    pub place_both : (k : ℕ) → (both s.part) ≡ true
        → or_else (get_or m (at k) 0) (get_or m (at k + palette_base) 0) ≡ first_reason m (place_reached s w k)
    unfolding place_reached
    place_both k h = rw h (doubly (at k))

    -- a word has no reason where its lanes have none, nor those of the word that it stands for
    pub clear_word : ((i : ℕ) → get_or m i 0 < 256) → bit_and (lanes_in s w) (eight_in m s w) ≡ 0
        → first_reason m (word_reached s w) ≡ 0
    unfolding word_reached lanes_in word_eight
    clear_word small e = none_all (reason_search m) (place_reached s w) (places_of s w) (λ k h. place k h (both s.part) refl)
      where
        clear : (k from : ℕ) → k < places_of s w → bit_and (lanes_in s w) (eight_bytes m from) ≡ 0 → get_or m (from + byte_of s k) 0 ≡ 0
        clear k from h e = zero_lane m from (places_of s w) (byte_of s) e k h (byte-lt s w k h) (small _)

        place : (k : ℕ) → k < places_of s w → (b : Bool) → (both s.part) ≡ b → first_reason m (place_reached s w k) ≡ 0
        place k h false t = sym (place_once k t) ∙ clear k (8 * word_in s w) h (rw t at e)
        place k h true t =
            let upper : at k + palette_base ≡ (8 * word_in s w + palette_base) + byte_of s k = omega arith in
            let z = or_zero _ _ (sym (and-or (lanes_in s w) _ _) ∙ (rw t at e)) in
            sym (place_both k t) ∙ rw (clear k (8 * word_in s w) h z.0, upper) (clear k (8 * word_in s w + palette_base) h z.1)

  -- and so has one that has nothing at all
  pub blank_clear : (s : Span) → ((i : ℕ) → get_or m i 0 < 256) → (w : ℕ) → eight_in m s w ≡ 0 → first_reason m (word_reached s w) ≡ 0
  blank_clear s small w e = clear_word s w small (ap (bit_and (lanes_in s w)) e ∙ and_zero_r (lanes_in s w))

  -- what the first place of a span has is what the span has
  pub at_once : (s : Span) → 0 < s.bytes → (r : ℕ) → r ≡ first_reason m (place_reached s 0 0) → (r ≡ 0 → ⊥)
      → r ≡ first_reason m (reached s)
  unfolding word_reached
  at_once s some r e h =
      rw (reached_words s)
      (first_found (reason_search m) (word_reached s) 0 (word_count s) (omega arith) (none_yet (reason_search m) _) r
      (first_found (reason_search m) (place_reached s 0) 0 (places_of s 0) (places_some s 0 (omega arith)) (none_yet (reason_search m) _)
      r e h)
      h)

  -- modes 0 and 1 have no palette
  pub no_palette : (t : Tile) (mode : ℕ) → mode < 2 → 0 ≡ first_reason m (palette_order t mode)
  unfolding first_reason palette_order
  no_palette t mode h = rw (lt-leb 2 mode h)

  -- the reach answers where it has a reason, else the palette
  module _ (t : Tile) (mode r : ℕ) where
    pub reach-answers : r ≡ first_reason m (reach t mode) → (r ≡ 0 → ⊥) → r ≡ rejection t mode m
    unfolding rejection
    reach-answers e h = e ∙ sym ((reason_search m).stays (reach t mode) (palette_order t mode) (λ z. h (e ∙ z)))

    pub palette_answers : first_reason m (reach t mode) ≡ 0 → r ≡ first_reason m (palette_order t mode) → r ≡ rejection t mode m
    unfolding rejection
    palette_answers z e = e ∙ sym ((reason_search m).next (reach t mode) (palette_order t mode) z)
