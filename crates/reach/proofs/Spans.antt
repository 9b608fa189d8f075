-- Laws of a span: what it reaches word by word, and which spans a row, a lookup and the palette are.
use mathlib.Core.Path.{◌≡◌, refl, ap, sym, ◌∙◌}
use mathlib.Core.Bool.{Bool, true, false, cond, ◌&&◌, ◌||◌}
use mathlib.Core.List.{List, [], ◌∷◌, ◌++◌}
use Prim.Native.Nat.{ℕ, zero, suc, ◌+◌, ◌-◌, ◌*◌, ◌/◌, ◌%◌, ◌^◌, ◌<◌, ◌≤◌, min}
use native.Mathlib.Numerals.{add-one}
use native.Mathlib.Omega.{arith}
use native.Mathlib.Nat.{mul_assoc, mul_comm, mod-eq_of_lt}
use lib.Bits.{bit_and, bit_xor, xor_block, xor_zero_r, xor_lt}
use lib.Dec.{ltb, leb}
use Rattle.std.specs.Int.{Width, w8, w64, rotate_left}
use native.Mathlib.Decide.{dec_lt}
use borrow.Author.Tests.{le-leb, lt-leb, lt-ltb, le-ltb, eq-eqb, ne_eqb}
use Rattle.rules.specs.Base.{odd, tab, tab_from, concat, any, marks, is_written}
use Rattle.rules.specs.Tile.{Tile, bank_size, bank_words, palette_base}
use Rattle.rules.specs.Texdec.{tlut}
use Rattle.rules.specs.Sampling.{is_rgba32}
use Rattle.rules.specs.Picture.{address, swap_odd}
use Rattle.rules.specs.Reach.{modulus, x_step, x_count, doubled, row_bytes, reach_at, reach_row, reach_whole, palette_order}
use Rattle.rules.proofs.Computed.{agree_below}
use Rattle.rules.proofs.Tables.{tab_none, tab-more, tab-same, tab-cut, concat-append, concat-more}
use Rattle.rdp.specs.declared.units.WordAddr.{WordAddr}
use Rattle.reach.specs.Words.{ors, low_words, twin, word_joined, word_meets}
use Rattle.reach.proofs.Words.{word_marks, word_any}
use Rattle.reach.specs.declared.span.Span.{Span}
use Rattle.reach.specs.declared.span.Part.TheVariants.{Whole, Lower, Both}
use Rattle.reach.specs.Span.{lower, both, part_of, words_of, bytes_of, step_of, places_in, reached_at, reached}
use Rattle.reach.specs.Span.{row_span, word_count, word_in, places_of, byte_of, bits_in, place_reached, word_reached}

-- the swap of halves stays in its word
swap_word : (o : Bool) (q x : ℕ) → swap_odd o (8 * q + x) ≡ 8 * q + swap_odd o x
swap_word false q x = refl
swap_word true q x = omega (arith, parts x, parts (8 * q + x), same, xor_zero_r (x / 8), xor_zero_r ((8 * q + x) / 8))
  where
    parts : (n : ℕ) → bit_xor n 4 ≡ bit_xor (n / 8) 0 * 8 + bit_xor (n % 8) 4
    parts n =
        let e : n ≡ n / 8 * 8 + n % 8 = omega arith in
        ap (λ m. bit_xor m 4) e ∙ xor_block 3 (n / 8) 0 (n % 8) 4 (omega arith) (omega arith)

    same : bit_xor ((8 * q + x) % 8) 4 ≡ bit_xor (x % 8) 4
    same = let e : (8 * q + x) % 8 ≡ x % 8 = omega arith in ap (λ m. bit_xor m 4) e

swap_lt : (o : Bool) (x : ℕ) → x < 8 → swap_odd o x < 8
swap_lt false x h = h
swap_lt true x h = xor_lt 3 x 4 h (omega arith)

-- an address in the words that its span wraps at
wrapped : (low : Bool) (n s : ℕ) → s < 8 → (8 * n + s) % bytes_of low ≡ 8 * (n % words_of low) + s
wrapped true n s h = omega arith
wrapped false n s h = omega arith

-- words that were wrapped at the bank's end wrap to the same addresses
wrapped_once : (low : Bool) (n s : ℕ) → (8 * (n % bank_words) + s) % bytes_of low ≡ (8 * n + s) % bytes_of low
wrapped_once true n s = omega arith
wrapped_once false n s = omega arith

-- eight bytes a word
pub bank_bytes : (low : Bool) → 8 * words_of low ≡ bytes_of low
bank_bytes true = refl
bank_bytes false = refl

-- the places of the bytes before word w
abbrev cut_at : Span → ℕ → ℕ
cut_at s w = places_in s.sparse (min (8 * w) s.bytes)

module _ (s : Span) where
  cut_none : cut_at s 0 ≡ 0
  cut_none = go s.sparse
    where
      go : (b : Bool) → places_in b (min (8 * 0) s.bytes) ≡ 0
      go true = omega arith
      go false = omega arith

  cut_all : (w : ℕ) → s.bytes ≤ 8 * w → cut_at s w ≡ places_in s.sparse s.bytes
  cut_all w h = let e : min (8 * w) s.bytes ≡ s.bytes = omega arith in ap (places_in s.sparse) e

  -- a word of the span has a place
  pub places_some : (w : ℕ) → 8 * w < s.bytes → 0 < places_of s w
  places_some w h = go s.sparse
    where
      go : (b : Bool) → 0 < places_in b (min (s.bytes - 8 * w) 8)
      go true = omega arith
      go false = omega arith

  -- and each is one of its eight bytes
  pub byte-lt : (w k : ℕ) → k < places_of s w → byte_of s k < 8
  byte-lt w k h = swap_lt s.odd (step_of s.sparse * k) (go s.sparse h)
    where
      go : (b : Bool) → k < places_in b (min (s.bytes - 8 * w) 8) → step_of b * k < 8
      go true q = omega arith
      go false q = omega arith

  -- a word is marked, or looked at
  pub marks_word : (w : ℕ) (m : List ℕ) → marks m (word_reached s w) ≡ word_joined (both s.part) m (word_in s w) (bits_in s w)
  unfolding word_reached place_reached bits_in
  marks_word w m = word_marks (word_in s w) (both s.part) (byte_of s) m (places_of s w) (byte-lt w)

  pub any_word : (w : ℕ) (m : List ℕ) → any (is_written m) (word_reached s w) ≡ word_meets (both s.part) m (word_in s w) (bits_in s w)
  unfolding word_reached place_reached bits_in
  any_word w m = word_any (word_in s w) m (both s.part) (byte_of s) (places_of s w) (byte-lt w)

-- where word w is one of the span's
module _ (s : Span) (w : ℕ) (h : 8 * w < s.bytes) where
  cut-more : cut_at s (w + 1) ≡ cut_at s w + places_of s w
  cut-more = go s.sparse
    where
      go : (b : Bool) → places_in b (min (8 * (w + 1)) s.bytes)
          ≡ places_in b (min (8 * w) s.bytes) + places_in b (min (s.bytes - 8 * w) 8)
      go true = omega arith
      go false = omega arith

  -- place k of the word stands k steps from its start
  place : (k : ℕ) → step_of s.sparse * (cut_at s w + k) ≡ 8 * w + step_of s.sparse * k
  place k = go s.sparse
    where
      go : (b : Bool) → step_of b * (places_in b (min (8 * w) s.bytes) + k) ≡ 8 * w + step_of b * k
      go true = omega arith
      go false = omega arith

  in_word : (k : ℕ) → k < places_of s w → reached_at s (cut_at s w + k) ≡ place_reached s w k
  unfolding reached_at place_reached
  in_word k q =
      let at : 8 * s.first.0 + (8 * w + byte_of s k) ≡ 8 * (s.first.0 + w) + byte_of s k = omega arith in
      rw (place k, swap_word s.odd w (step_of s.sparse * k), at, wrapped (lower s.part) (s.first.0 + w) (byte_of s k) (byte-lt s w k q))

  word_more : concat (tab (cut_at s (w + 1)) (reached_at s)) ≡ concat (tab (cut_at s w) (reached_at s)) ++ word_reached s w
  unfolding word_reached
  word_more =
      let same = tab-same (places_of s w) _ (place_reached s w) in_word in
      rw (cut-more, tab-cut (cut_at s w) (places_of s w) (reached_at s), concat-append, same)

-- what a span reaches is what its words do, one after the other
module _ (s : Span) where
  words_to : (w : ℕ) → w ≤ word_count s → concat (tab (cut_at s w) (reached_at s)) ≡ concat (tab w (word_reached s))
  words_to zero h = rw (cut_none s, tab_none (reached_at s), tab_none (word_reached s))
  words_to (suc w) h =
      rw (← add-one w, word_more s w (omega arith), words_to w (omega arith), concat-more)

  pub reached_words : reached s ≡ concat (tab (word_count s) (word_reached s))
  unfolding reached
  reached_words = rw (← cut_all s (word_count s) (omega arith)) (words_to (word_count s) (omega arith))

  -- where it is one word, that of the word
  pub only_word : word_count s ≡ 1 → reached s ≡ word_reached s 0
  unfolding concat tab tab_from
  only_word e = reached_words ∙ ap (λ n. concat (tab n (word_reached s))) e ∙ concat-more 0 (word_reached s)

-- a number whose halves change places on odd rows
abbrev pub turned : Width → ℕ → Bool → ℕ → ℕ
turned w half odd n = cond odd (rotate_left w n half) n

-- the bits of the first n bytes of a word as they are made, and as the places have them
abbrev made : Bool → Bool → ℕ → ℕ
made sparse odd n = cond sparse (bit_and (turned w8 4 odd (2 ^ n - 1)) 85) (turned w8 4 odd (2 ^ n - 1))

abbrev placed : Bool → Bool → ℕ → ℕ
placed sparse odd n = ors (places_in sparse n) (λ j. 2 ^ swap_odd odd (step_of sparse * j))

-- they are the same, computed at each n
pub bits_placed : (sparse odd : Bool) (n : ℕ) → n ≤ 8 → made sparse odd n ≡ placed sparse odd n
unfolding ors
bits_placed true true n h = agree_below 9 (made true true) (placed true true) tt n (omega arith)
bits_placed true false n h = agree_below 9 (made true false) (placed true false) tt n (omega arith)
bits_placed false true n h = agree_below 9 (made false true) (placed false true) tt n (omega arith)
bits_placed false false n h = agree_below 9 (made false false) (placed false false) tt n (omega arith)

-- and so for all bits of those bytes
abbrev pub full : ℕ → ℕ
full n = 2 ^ (8 * n) - 1

abbrev made_lanes : Bool → Bool → ℕ → ℕ
made_lanes sparse odd n = cond sparse (bit_and (turned w64 32 odd (full n)) 71777214294589695) (turned w64 32 odd (full n))

abbrev placed_lanes : Bool → Bool → ℕ → ℕ
placed_lanes sparse odd n = ors (places_in sparse n) (λ j. 255 * 2 ^ (8 * swap_odd odd (step_of sparse * j)))

pub lanes_placed : (sparse odd : Bool) (n : ℕ) → n ≤ 8 → made_lanes sparse odd n ≡ placed_lanes sparse odd n
unfolding ors
lanes_placed true true n h = agree_below 9 (made_lanes true true) (placed_lanes true true) tt n (omega arith)
lanes_placed true false n h = agree_below 9 (made_lanes true false) (placed_lanes true false) tt n (omega arith)
lanes_placed false true n h = agree_below 9 (made_lanes false true) (placed_lanes false true) tt n (omega arith)
lanes_placed false false n h = agree_below 9 (made_lanes false false) (placed_lanes false false) tt n (omega arith)

-- a whole word's bytes are all, whichever way its halves are
pub whole_turned : (odd : Bool) → 18446744073709551615 ≡ turned w64 32 odd (full 8)
whole_turned true = refl
whole_turned false = refl

-- byte x of a row, from the row's first word and from the tile's
row_place : (low : Bool) (first word line y x : ℕ) (o : Bool) → first ≡ (word + y * line) % bank_words
    → address (bytes_of low) (8 * first) o x ≡ address (bytes_of low) (8 * word) o (y * (8 * line) + x)
row_place low first word line y x o f =
    let e : y * (8 * line) ≡ 8 * (y * line) = sym (mul_assoc y 8 line) ∙ ap (λ k. k * line) (mul_comm y 8) ∙ mul_assoc 8 y line in
    let at : 8 * (word + y * line) + swap_odd o x ≡ 8 * word + (8 * (y * line) + swap_odd o x) = omega arith in
    rw (f, e, swap_word o (y * line) x, ← at) (wrapped_once low (word + y * line) (swap_odd o x))

module _ (t : Tile) (mode : ℕ) where
  -- the part of a tile is the rules' modulus, and says which addresses are doubled
  part_modulus : bytes_of (lower (part_of t mode)) ≡ modulus t mode
  part_modulus = go (tlut mode) (is_rgba32 t.fmt t.siz)
    where
      go : (a b : Bool) → bytes_of (lower (cond a Lower (cond b Both Whole))) ≡ cond (a || b) palette_base bank_size
      go true b = refl
      go false true = refl
      go false false = refl

  part_both : both (part_of t mode) ≡ (ltb mode 2 && is_rgba32 t.fmt t.siz)
  part_both = go (dec_lt mode 2) (is_rgba32 t.fmt t.siz)
    where
      go : Dec (mode < 2) → (b : Bool) → both (cond (tlut mode) Lower (cond b Both Whole)) ≡ (ltb mode 2 && b)
      go (yes h) true = rw (lt-leb 2 mode h, lt-ltb mode 2 h)
      go (yes h) false = rw (lt-leb 2 mode h, lt-ltb mode 2 h)
      go (no h) b = rw (le-leb 2 mode (omega (arith, h)), le-ltb mode 2 (omega (arith, h)))

  part_doubled : (a : ℕ) → twin (both (part_of t mode)) a ≡ doubled t mode a
  unfolding twin doubled
  part_doubled a = rw part_both

  -- a lookup as a span
  abbrev whole_span : Span
  whole_span =
      record {
        first = record { 0 = 0 };
        bytes = bytes_of (lower (part_of t mode));
        odd = false;
        sparse = false;
        part = part_of t mode;
      }

  pub whole_reached : reached whole_span ≡ reach_whole t mode
  unfolding reached reached_at reach_whole
  whole_reached =
      let n : places_in false (modulus t mode) ≡ modulus t mode = omega arith in
      ap concat
      (ap (λ n. tab n (reached_at whole_span)) (ap (places_in false) part_modulus ∙ n)
      ∙ tab-same (modulus t mode) (reached_at whole_span) (doubled t mode) (λ k h.
      ap (twin (both (part_of t mode))) (ap (λ b. (8 * 0 + 1 * k) % b) part_modulus ∙ at k h) ∙ part_doubled k))
    where
      at : (k : ℕ) → k < modulus t mode → (8 * 0 + 1 * k) % modulus t mode ≡ k
      at k h = let e : 8 * 0 + 1 * k ≡ k = omega arith in rw e (mod-eq_of_lt h)

  -- a row, from its first word on
  pub row_from : (first : WordAddr) (y : ℕ) → first.0 ≡ (row_span t mode y).first.0
      → record {
        first = first;
        bytes = row_bytes t;
        odd = odd y;
        sparse = tlut mode && leb 2 t.siz;
        part = part_of t mode;
      } ≡ row_span t mode y
  row_from first y e = rw e

  pub row_reached : (y : ℕ) → reached (row_span t mode y) ≡ reach_row t mode y
  unfolding reached reached_at reach_row reach_at
  row_reached y =
      ap concat (tab-same (x_count t mode) (reached_at (row_span t mode y)) (reach_at t mode y) (λ i h.
      ap (twin (both (part_of t mode)))
      (row_place (lower (part_of t mode)) _ t.tmem_addr t.line y (x_step t mode * i) (odd y) refl
      ∙ ap (λ b. address b (8 * t.tmem_addr) (odd y) (y * (8 * t.line) + x_step t mode * i)) part_modulus)
      ∙ part_doubled _))

-- lists of one number each
concat-one : (n : ℕ) (f : ℕ → ℕ) → concat (tab n (λ i. f i ∷ [])) ≡ tab n f
unfolding concat
concat-one zero f = rw (tab_none (λ (i : ℕ). f i ∷ []), tab_none f)
concat-one (suc n) f = rw (← add-one n, concat-more n (λ (i : ℕ). f i ∷ []), concat-one n f, tab-more n f)

-- bytes of the upper half as a span
module _ (word bytes : ℕ) (h : 8 * word + bytes ≤ palette_base) where
  abbrev upper_span : Span
  upper_span =
      record {
        first = record { 0 = low_words + word };
        bytes = bytes;
        odd = false;
        sparse = false;
        part = Whole;
      }

  pub upper-reached : reached upper_span ≡ tab bytes (λ i. palette_base + 8 * word + i)
  unfolding reached reached_at twin
  upper-reached =
      let n : places_in false bytes ≡ bytes = omega arith in
      ap (λ n. concat (tab n (reached_at upper_span))) n
      ∙ ap concat
      (tab-same bytes (reached_at upper_span) (λ i. (palette_base + 8 * word + i) ∷ []) (λ i l. ap (λ a. a ∷ []) (at i l)))
      ∙ concat-one bytes (λ i. palette_base + 8 * word + i)
    where
      at : (i : ℕ) → i < bytes → (8 * (low_words + word) + 1 * i) % bank_size ≡ palette_base + 8 * word + i
      at i l = omega arith

-- the palette's order: the tile's own, or all
module _ (t : Tile) (mode : ℕ) (h : 2 ≤ mode) where
  pub palette_own : t.siz ≡ 0 → tab 128 (λ i. palette_base + 8 * (16 * t.palette) + i) ≡ palette_order t mode
  unfolding palette_order
  palette_own z = rw (le-leb 2 mode h, eq-eqb t.siz 0 z) (tab-same 128 _ _ (λ i l. omega arith))

  pub palette_all : (t.siz ≡ 0 → ⊥) → tab 2048 (λ i. palette_base + 8 * 0 + i) ≡ palette_order t mode
  unfolding palette_order
  palette_all z = rw (le-leb 2 mode h, ne_eqb t.siz 0 z) (tab-same 2048 _ _ (λ i l. omega arith))
