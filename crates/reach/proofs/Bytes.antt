-- Laws of one byte of a map: what several bits do at once, or where one of them is.
use mathlib.Core.Path.{◌≡◌, refl, ap, ap₂, sym, ◌∙◌}
use mathlib.Core.Bool.{Bool, true, false, cond, not, ◌&&◌, ◌||◌, or-false}
use mathlib.Core.List.{List, [], ◌∷◌}
use Prim.Native.Nat.{ℕ, zero, suc, ◌+◌, ◌-◌, ◌*◌, ◌/◌, ◌%◌, ◌^◌, ◌<◌, ◌≤◌}
use native.Mathlib.Omega.{arith}
use native.Mathlib.Decide.{ℕ_discrete, dec_lt}
use native.Mathlib.Nat.{one-mul, zero-div, mod-eq_of_lt}
use lib.Bits.{bit_and, bit_or, and_step, or_step, or_shr, and_shr, or_zero_r, and_zero_r}
use lib.Bits.{and_le_l, and_le_r, and_comm, and_mask, and_block, or_add_and, or_disjoint}
use lib.Dec.{eqb, ltb}
use lib.ListN.{get_or, take, drop}
use lib.Pow.{shl_exact, shl-shr, pow_pos}
use Rattle.std.specs.Int.{w64, from_le_bytes}
use Rattle.std.proofs.lemmas.List.{get_or-take, get_or-drop}
use borrow.Author.Tests.{eq-eqb, ne_eqb, lt-ltb, le-ltb}
use Rattle.rules.specs.Base.{one, marked, number_at, is_written}
use Rattle.rules.proofs.Bits.{more_bits, ones}
use Rattle.rules.proofs.Computed.{agree_below}
use Rattle.reach.specs.Words.{ors, joined, mark_bit, word_marks, eight_bytes, word_bytes, meets, low_words, word_meets}
use Rattle.reach.proofs.Differ.{differ, are_apart}

-- one bit, shifted inside a width, is a power of two
pub bit_shifted : (k width : ℕ) → k < width → 1 * 2 ^ k % 2 ^ width ≡ 2 ^ k
bit_shifted k width h = shl_exact 1 k width (omega arith) (omega arith) ∙ one-mul (2 ^ k)

-- and goes over or
and_or_to : (n v a b : ℕ) → v + a + b ≤ n → bit_and v (bit_or a b) ≡ bit_or (bit_and v a) (bit_and v b)
and_or_to zero v a b h =
    let x : v ≡ 0 = omega arith in
    rw x
and_or_to (suc n) v a b h =
    let e : bit_and (v / 2) (bit_or a b / 2) ≡ bit_or (bit_and v a / 2) (bit_and v b / 2) =
    rw (or_shr a b 1, and_shr v a 1, and_shr v b 1) (and_or_to n (v / 2) (a / 2) (b / 2) (omega arith)) in
    omega (arith, and_step v (bit_or a b), or_step (bit_and v a) (bit_and v b), or_step a b, and_step v a, and_step v b)

pub and-or : (v a b : ℕ) → bit_and v (bit_or a b) ≡ bit_or (bit_and v a) (bit_and v b)
and-or v a b = and_or_to (v + a + b) v a b (omega arith)

or_some : (x y : ℕ) → differ (bit_or x y) 0 ≡ (differ x 0 || differ y 0)
or_some x y = go (ℕ_discrete x 0)
  where
    go : Dec (x ≡ 0) → differ (bit_or x y) 0 ≡ (differ x 0 || differ y 0)
    go (no p) =
        are_apart (bit_or x y) 0 (λ z. p (omega (arith, or_add_and x y, and_le_r x y))) ∙ sym (ap (λ t. t || differ y 0) (are_apart x 0 p))
    go (yes p) = rw p

-- no bits of a byte, some and then more of them, and bits of two bytes
pub joined_none : (m : List ℕ) (w : ℕ) → joined m w 0 ≡ m
unfolding joined
joined_none [] w = refl
joined_none (x ∷ m) zero = rw (or_zero_r x)
joined_none (x ∷ m) (suc w) = ap (λ l. x ∷ l) (joined_none m w)

pub joined-more : (m : List ℕ) (w a b : ℕ) → joined (joined m w a) w b ≡ joined m w (bit_or a b)
unfolding joined
joined-more m w a b = more_bits m w a b

pub joined_swap : (m : List ℕ) (w v a b : ℕ) → (w ≡ v → ⊥) → joined (joined m w a) v b ≡ joined (joined m v b) w a
unfolding joined
joined_swap [] w v a b h = refl
joined_swap (x ∷ m) zero zero a b h = absurd (h refl)
joined_swap (x ∷ m) zero (suc v) a b h = refl
joined_swap (x ∷ m) (suc w) zero a b h = refl
joined_swap (x ∷ m) (suc w) (suc v) a b h = ap (λ l. x ∷ l) (joined_swap m w v a b (λ e. h (ap suc e)))

pub meets_none : (m : List ℕ) (w : ℕ) → meets m w 0 ≡ false
unfolding meets
meets_none m w = ap (λ n. differ n 0) (and_zero_r (word_marks m w))

pub meets-more : (m : List ℕ) (w a b : ℕ) → meets m w (bit_or a b) ≡ (meets m w a || meets m w b)
unfolding meets
meets-more m w a b =
    ap (λ n. differ n 0) (and-or (word_marks m w) a b) ∙ or_some (bit_and (word_marks m w) a) (bit_and (word_marks m w) b)

-- two of eight bits meet where they are the same, computed at each
bits_meet : (j k : ℕ) → j < 8 → k < 8 → differ (bit_and (2 ^ j) (2 ^ k)) 0 ≡ eqb k j
bits_meet j k h l =
    let first : (8 * j + k) / 8 ≡ j = omega arith in
    let second : (8 * j + k) % 8 ≡ k = omega arith in
    let same = agree_below 64 (λ n. one (differ (bit_and (2 ^ (n / 8)) (2 ^ (n % 8))) 0)) (λ n. one (eqb (n % 8) (n / 8))) tt (8 * j + k)
    (omega arith) in
    ones _ _ (rw (first, second) at same)

-- of the bits of those that hold, bit s is one where s holds
some_bit : (b : ℕ → Bool) (s : ℕ) → s < 8 → (n : ℕ) → n ≤ 8
    → differ (bit_and (2 ^ s) (ors n (λ k. cond (b k) (2 ^ k) 0))) 0 ≡ (ltb s n && b s)
unfolding ors
some_bit b s h zero l = ap (λ n. differ n 0) (and_zero_r (2 ^ s)) ∙ sym (ap (λ c. c && b s) (le-ltb s 0 (omega arith)))
some_bit b s h (suc n) l =
    ap (λ n. differ n 0) (and-or (2 ^ s) (ors n (λ k. cond (b k) (2 ^ k) 0)) (cond (b n) (2 ^ n) 0))
    ∙ or_some (bit_and (2 ^ s) (ors n (λ k. cond (b k) (2 ^ k) 0))) (bit_and (2 ^ s) (cond (b n) (2 ^ n) 0))
    ∙ ap (λ c. c || differ (bit_and (2 ^ s) (cond (b n) (2 ^ n) 0)) 0) (some_bit b s h n (omega arith))
    ∙ go (ℕ_discrete s n)
  where
    -- the bit that is added
    added : (c : Bool) → differ (bit_and (2 ^ s) (cond c (2 ^ n) 0)) 0 ≡ (c && eqb n s)
    added true = bits_meet s n h (omega arith)
    added false = ap (λ n. differ n 0) (and_zero_r (2 ^ s))

    go : Dec (s ≡ n) → ((ltb s n && b s) || differ (bit_and (2 ^ s) (cond (b n) (2 ^ n) 0)) 0) ≡ (ltb s (suc n) && b s)
    go (yes e) =
        rw (added (b n), le-ltb s n (omega arith), lt-ltb s (suc n) (omega arith), eq-eqb n s (sym e), ← e) (here (b s))
      where
        here : (c : Bool) → (c && true) ≡ c
        here true = refl
        here false = refl
    go (no e) = rw (added (b n), ne_eqb n s (λ q. e (sym q))) (there (b s) (b n) (dec_lt s n))
      where
        there : (c d : Bool) → Dec (s < n) → ((ltb s n && c) || (d && false)) ≡ (ltb s (suc n) && c)
        there c true (yes q) = rw (lt-ltb s n q, lt-ltb s (suc n) (omega arith)) (or-false c)
        there c false (yes q) = rw (lt-ltb s n q, lt-ltb s (suc n) (omega arith)) (or-false c)
        there c true (no q) = rw (le-ltb s n (omega (arith, q)), le-ltb s (suc n) (omega (arith, q, e)))
        there c false (no q) = rw (le-ltb s n (omega (arith, q)), le-ltb s (suc n) (omega (arith, q, e)))

-- where all of some numbers are zero in one, each is
pub ors_zero : (n : ℕ) (f : ℕ → ℕ) → ors n f ≡ 0 → (k : ℕ) → k < n → f k ≡ 0
unfolding ors
ors_zero zero f e k h = absurd (omega arith)
ors_zero (suc n) f e k h = go (ℕ_discrete k n) (λ z l. ors_zero n f z k l)
  where
    go : Dec (k ≡ n) → (ors n f ≡ 0 → k < n → f k ≡ 0) → f k ≡ 0
    go (yes q) ih = rw q (omega (arith, e, or_add_and (ors n f) (f n), and_le_l (ors n f) (f n)))
    go (no q) ih = ih (omega (arith, e, or_add_and (ors n f) (f n), and_le_r (ors n f) (f n))) (omega (arith, q))

-- and where each is, they are in one
zero_ors : (n : ℕ) (f : ℕ → ℕ) → ((k : ℕ) → k < n → f k ≡ 0) → ors n f ≡ 0
unfolding ors
zero_ors zero f e = refl
zero_ors (suc n) f e = rw (zero_ors n f (λ k h. e k (omega arith)), e n (omega arith))

-- one of eight bytes that are zero in one
zero_byte : (m : List ℕ) (from k : ℕ) → eight_bytes m from ≡ 0 → k < 8 → get_or m (from + k) 0 ≡ 0
unfolding eight_bytes
zero_byte m from k e h =
    let none = ors_zero 8 (λ k. get_or m (from + k) 0 * 2 ^ (8 * k)) e k h in
    sym (shl-shr (get_or m (from + k) 0) (8 * k)) ∙ rw none (zero-div (2 ^ (8 * k)))

-- where two numbers are zero in one, both are
pub or_zero : (x y : ℕ) → bit_or x y ≡ 0 → (x ≡ 0) × (y ≡ 0)
or_zero x y e =
    let none : x + y ≡ 0 = omega (arith, e, or_add_and x y, and_le_l x y, and_le_r x y) in
    (omega arith, omega arith)

-- where v has nothing in common with some numbers in one, it has nothing in common with each
apart_each : (v n : ℕ) (f : ℕ → ℕ) → bit_and v (ors n f) ≡ 0 → (k : ℕ) → k < n → bit_and v (f k) ≡ 0
unfolding ors
apart_each v zero f e k h = absurd (omega arith)
apart_each v (suc n) f e k h = go (ℕ_discrete k n) (λ z l. apart_each v n f z k l)
  where
    parts : (bit_and v (ors n f) ≡ 0) × (bit_and v (f n) ≡ 0)
    parts = or_zero (bit_and v (ors n f)) (bit_and v (f n)) (sym (and-or v (ors n f) (f n)) ∙ e)

    go : Dec (k ≡ n) → (bit_and v (ors n f) ≡ 0 → k < n → bit_and v (f k) ≡ 0) → bit_and v (f k) ≡ 0
    go (yes q) ih = rw q parts.1
    go (no q) ih = ih parts.0 (omega (arith, q))

-- bytes are zero where the number of the eight has nothing in common with all bits of those bytes, byte g k for each k below n
pub zero_lane : (m : List ℕ) (from n : ℕ) (g : ℕ → ℕ) → bit_and (ors n (λ k. 255 * 2 ^ (8 * g k))) (eight_bytes m from) ≡ 0
    → (k : ℕ) → k < n → g k < 8 → get_or m (from + g k) 0 < 256 → get_or m (from + g k) 0 ≡ 0
unfolding eight_bytes
zero_lane m from n g e k h l small =
    let b = get_or m (from + g k) 0 in
    let up = 8 * g k in
    let lane : bit_and (255 * 2 ^ up) (eight_bytes m from) ≡ 0 =
    and_comm (255 * 2 ^ up) (eight_bytes m from)
    ∙ apart_each (eight_bytes m from) n (λ k. 255 * 2 ^ (8 * g k)) (and_comm (eight_bytes m from) _ ∙ e) k h in
    let here : bit_and (255 * 2 ^ up) (b * 2 ^ up) ≡ 0 =
    apart_each (255 * 2 ^ up) 8 (λ j. get_or m (from + j) 0 * 2 ^ (8 * j)) lane (g k) l in
    let byte : bit_and 255 b ≡ 0 =
    ap₂ bit_and (sym (shl-shr 255 up)) (sym (shl-shr b up)) ∙ sym (and_shr (255 * 2 ^ up) (b * 2 ^ up) up) ∙ rw here (zero-div (2 ^ up)) in
    sym (mod-eq_of_lt small) ∙ sym (and_mask b 8) ∙ and_comm b 255 ∙ byte

-- a word whose bytes are zero has no marks
pub blank_word : (m : List ℕ) (w : ℕ) → word_bytes m w ≡ 0 → 0 ≡ word_marks m w
unfolding word_bytes word_marks is_written number_at
blank_word m w e = sym (zero_ors 8 (mark_bit m w) none)
  where
    zeros : (eight_bytes m (16 * w) ≡ 0) × (eight_bytes m (16 * w + 8) ≡ 0)
    zeros = or_zero (eight_bytes m (16 * w)) (eight_bytes m (16 * w + 8)) e

    byte : (j : ℕ) → j < 16 → get_or m (16 * w + j) 0 ≡ 0
    byte j h = go (dec_lt j 8)
      where
        go : Dec (j < 8) → get_or m (16 * w + j) 0 ≡ 0
        go (yes q) = zero_byte m (16 * w) j zeros.0 q
        go (no q) =
            let at : 16 * w + j ≡ (16 * w + 8) + (j - 8) = omega (arith, q) in
            rw at (zero_byte m (16 * w + 8) (j - 8) zeros.1 (omega arith))

    none : (k : ℕ) → k < 8 → mark_bit m w k ≡ 0
    none k h =
        let high : 2 * (8 * w + k) ≡ 16 * w + 2 * k = omega arith in
        let low : 2 * (8 * w + k) + 1 ≡ 16 * w + (2 * k + 1) = omega arith in
        rw (low, high, byte (2 * k) (omega arith), byte (2 * k + 1) (omega arith))

-- an address is written where one of its two bytes is not zero
module _ (m : List ℕ) (w k : ℕ) where
  abbrev high : ℕ
  high = get_or m (2 * (8 * w + k)) 0

  abbrev low : ℕ
  low = get_or m (2 * (8 * w + k) + 1) 0

  pub bit_none : bit_or high low ≡ 0 → 0 ≡ mark_bit m w k
  unfolding is_written number_at
  bit_none e =
      let none : 256 * high + low ≡ 0 = omega (arith, e, or_add_and high low, and_le_l high low, and_le_r high low) in
      rw (eq-eqb _ _ none)

  pub bit_some : (bit_or high low ≡ 0 → ⊥) → 2 ^ k ≡ mark_bit m w k
  unfolding is_written number_at
  bit_some e =
      rw (ne_eqb (256 * high + low) 0 (λ z. e (omega (arith, z, or_add_and high low))))

-- one address: a bit of its word
module _ (m : List ℕ) (w s : ℕ) (h : s < 8) where
  word_of : (8 * w + s) / 8 ≡ w
  word_of = omega arith

  bit_of : (8 * w + s) % 8 ≡ s
  bit_of = omega arith

  pub marked_word : marked m (8 * w + s) ≡ joined m w (2 ^ s)
  unfolding marked joined
  marked_word = rw (word_of, bit_of)

  pub is_written_word : is_written m (8 * w + s) ≡ meets m w (2 ^ s)
  unfolding meets word_marks
  is_written_word =
      sym
      (ap (λ n. differ n 0) (and_comm (ors 8 (mark_bit m w)) (2 ^ s))
      ∙ some_bit (λ k. is_written m (8 * w + k)) s h 8 (omega arith)
      ∙ ap (λ b. b && is_written m (8 * w + s)) (lt-ltb s 8 h))

-- so none of its bits is set
pub blank_meets : (m : List ℕ) (w bits : ℕ) → word_bytes m w ≡ 0 → meets m w bits ≡ false
unfolding meets
blank_meets m w bits e = ap (λ n. not (eqb (bit_and n bits) 0)) (sym (blank_word m w e))

-- nor one of the word that it stands for, where that one is blank, too
pub blank_both : (m : List ℕ) (twice : Bool) (w bits : ℕ) → word_bytes m w ≡ 0 → (twice ≡ true → word_bytes m (w + low_words) ≡ 0)
    → word_meets twice m w bits ≡ false
unfolding word_meets
blank_both m true w bits e f = rw (blank_meets m w bits e, blank_meets m (w + low_words) bits (f refl))
blank_both m false w bits e f = blank_meets m w bits e

-- a byte above some bits in one number is added to them
or_above : (k x b : ℕ) → x < 2 ^ k → bit_or x (b * 2 ^ k) ≡ x + b * 2 ^ k
or_above k x b h = or_disjoint x (b * 2 ^ k) apart
  where
    apart : bit_and x (b * 2 ^ k) ≡ 0
    apart =
        let e = and_block k 0 b x 0 h (pow_pos k) in
        let low : 0 * 2 ^ k + x ≡ x = omega arith in
        let high : b * 2 ^ k + 0 ≡ b * 2 ^ k = omega arith in
        let none : 0 * 2 ^ k + 0 ≡ 0 = omega arith in
        (rw (low, high, and_zero_r x) at e) ∙ none

-- eight bytes that follow each other, added up, are one number
eight_above : (a b c d e f h i : ℕ) → a < 256 → b < 256 → c < 256 → d < 256 → e < 256 → f < 256 → h < 256
    → bit_or
    (bit_or (bit_or (bit_or (bit_or (bit_or (bit_or (a * 1) (b * 2 ^ 8)) (c * 2 ^ 16)) (d * 2 ^ 24)) (e * 2 ^ 32)) (f * 2 ^ 40))
    (h * 2 ^ 48))
    (i * 2 ^ 56)
    ≡ a + b * 2 ^ 8 + c * 2 ^ 16 + d * 2 ^ 24 + e * 2 ^ 32 + f * 2 ^ 40 + h * 2 ^ 48 + i * 2 ^ 56
eight_above a b c d e f h i p q r s t u v =
    rw (
      or_above 8 (a * 1) b (omega arith),
      or_above 16 (a * 1 + b * 2 ^ 8) c (omega arith),
      or_above 24 (a * 1 + b * 2 ^ 8 + c * 2 ^ 16) d (omega arith),
      or_above 32 (a * 1 + b * 2 ^ 8 + c * 2 ^ 16 + d * 2 ^ 24) e (omega arith),
      or_above 40 (a * 1 + b * 2 ^ 8 + c * 2 ^ 16 + d * 2 ^ 24 + e * 2 ^ 32) f (omega arith),
      or_above 48 (a * 1 + b * 2 ^ 8 + c * 2 ^ 16 + d * 2 ^ 24 + e * 2 ^ 32 + f * 2 ^ 40) h (omega arith),
      or_above 56 (a * 1 + b * 2 ^ 8 + c * 2 ^ 16 + d * 2 ^ 24 + e * 2 ^ 32 + f * 2 ^ 40 + h * 2 ^ 48) i (omega arith),
    )
    (omega arith)

pub sum_eight : (m : List ℕ) (from : ℕ) → ((i : ℕ) → get_or m i 0 < 256) → from_le_bytes w64 (take 8 (drop from m)) ≡ eight_bytes m from
unfolding eight_bytes ors
sum_eight m from small =
    rw (
      here 0 (omega arith),
      here 1 (omega arith),
      here 2 (omega arith),
      here 3 (omega arith),
      here 4 (omega arith),
      here 5 (omega arith),
      here 6 (omega arith),
      here 7 (omega arith),
    )
    (sym
    (eight_above (at 0) (at 1) (at 2) (at 3) (at 4) (at 5) (at 6) (at 7)
    (small _) (small _) (small _) (small _) (small _) (small _) (small _)))
  where
    at : ℕ → ℕ
    at i = get_or m (from + i) 0

    here : (i : ℕ) → i < 8 → get_or (take 8 (drop from m)) i 0 ≡ get_or m (from + i) 0
    here i h = get_or-take 8 (drop from m) i 0 h ∙ get_or-drop from m i 0
