-- Laws of rows of one word at most: all even rows reach the same bytes of their words, and all odd ones.
use mathlib.Core.Path.{◌≡◌, ap, sym, ◌∙◌}
use mathlib.Core.Bool.{Bool, true, false}
use mathlib.Core.List.{List}
use Prim.Native.Nat.{ℕ, ◌+◌, ◌*◌, ◌/◌, ◌%◌, ◌<◌, ◌≤◌}
use native.Mathlib.Omega.{arith}
use native.Mathlib.Decide.{ℕ_discrete}
use native.Mathlib.Nat.{add-mul}
use lib.Bits.{bit_and, and_zero_r}
use lib.ListN.{get_or}
use borrow.Author.Tests.{eq-eqb, ne_eqb}
use Rattle.rules.specs.Tile.{Tile, bank_words}
use Rattle.rules.specs.Reach.{row_bytes, reach_row, first_reason}
use Rattle.reach.specs.Words.{ors}
use Rattle.reach.specs.declared.span.Span.{Span}
use Rattle.reach.specs.Span.{lower, words_of, word_count, word_in, lanes_in, eight_in, word_reached, row_span, row_lanes, BlankFours}
use Rattle.reach.proofs.Joined.{none_all, reason_search}
use Rattle.reach.proofs.Bytes.{ors_zero}
use Rattle.reach.proofs.Spans.{reached_words, row_reached}
use Rattle.reach.proofs.Asked.{clear_word}

-- the first word of a row, from that of row 0
stepped : (low : Bool) (a p : ℕ) → ((a + p) % bank_words + 0) % words_of low ≡ ((a + 0) % bank_words + p) % words_of low
stepped true a p = omega arith
stepped false a p = omega arith

module _ (m : List ℕ) (t : Tile) (mode : ℕ) where
  abbrev row : ℕ → Span
  row = row_span t mode

  row_word : (y : ℕ) → word_in (row y) 0 ≡ word_in (row 0) (y * t.line)
  row_word y =
      let none : 0 * t.line ≡ 0 = omega arith in
      rw none (stepped (lower (row y).part) t.tmem_addr (y * t.line))

  row_eight : (y : ℕ) → eight_in m (row y) 0 ≡ eight_in m (row 0) (y * t.line)
  row_eight y = rw (row_word y)

  row-lanes : (y z : ℕ) → y % 2 ≡ z % 2 → lanes_in (row y) 0 ≡ lanes_in (row z) 0
  unfolding lanes_in
  row-lanes y z e = rw e

  module _ (short : row_bytes t ≤ 8) (small : (i : ℕ) → get_or m i 0 < 256) where
    row_clear : (y : ℕ) → bit_and (lanes_in (row y) 0) (eight_in m (row 0) (y * t.line)) ≡ 0 → first_reason m (reach_row t mode y) ≡ 0
    row_clear y e =
        ap (first_reason m) (sym (row_reached t mode y) ∙ reached_words (row y))
        ∙ none_all (reason_search m) (word_reached (row y)) (word_count (row y)) only
      where
        only : (w : ℕ) → w < word_count (row y) → first_reason m (word_reached (row y) w) ≡ 0
        only w h =
            let z : w ≡ 0 = omega arith in
            rw z (clear_word m (row y) 0 small (rw (row_eight y) e))

    -- four rows are clear where one number is zero
    pub four_clear : (y : ℕ) → y % 2 ≡ 0 → ors 4 (row_lanes m (row 0) (row 1) t.line (y * t.line)) ≡ 0 → (k : ℕ) → k < 4
        → first_reason m (reach_row t mode (y + k)) ≡ 0
    four_clear y even e k h =
        row_clear (y + k)
        (ap (λ w. bit_and (lanes_in (row (y + k)) 0) (eight_in m (row 0) w)) (add-mul y k t.line)
        ∙ go (ℕ_discrete (k % 2) 1) (ors_zero 4 (row_lanes m (row 0) (row 1) t.line (y * t.line)) e k h))
      where
        go : Dec (k % 2 ≡ 1) → row_lanes m (row 0) (row 1) t.line (y * t.line) k ≡ 0
            → bit_and (lanes_in (row (y + k)) 0) (eight_in m (row 0) (y * t.line + k * t.line)) ≡ 0
        go (yes o) z = rw (row-lanes (y + k) 1 (omega arith)) (rw (eq-eqb (k % 2) 1 o) at z)
        go (no o) z = rw (row-lanes (y + k) 0 (omega (arith, o))) (rw (ne_eqb (k % 2) 1 o) at z)

    -- and where their words have nothing at all
    pub four-blank : (y : ℕ) → ors 4 (λ k. eight_in m (row 0) (y * t.line + k * t.line)) ≡ 0 → (k : ℕ) → k < 4
        → first_reason m (reach_row t mode (y + k)) ≡ 0
    four-blank y e k h =
        row_clear (y + k)
        (ap (λ w. bit_and (lanes_in (row (y + k)) 0) (eight_in m (row 0) w)) (add-mul y k t.line)
        ∙ ap (bit_and (lanes_in (row (y + k)) 0)) (ors_zero 4 (λ k. eight_in m (row 0) (y * t.line + k * t.line)) e k h)
        ∙ and_zero_r (lanes_in (row (y + k)) 0))

    -- so are all rows before as many fours
    pub fours-blank : (n rows : ℕ) → rows ≤ 4 * n → BlankFours m (row 0) t.line n → (y : ℕ) → y < rows
        → first_reason m (reach_row t mode y) ≡ 0
    fours-blank n rows h b y l =
        let at : 4 * (y / 4) + y % 4 ≡ y = omega arith in
        ap (λ z. first_reason m (reach_row t mode z)) (sym at) ∙ four-blank (4 * (y / 4)) (b (y / 4) (omega arith)) (y % 4) (omega arith)
