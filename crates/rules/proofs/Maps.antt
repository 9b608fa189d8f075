-- Laws of bit maps: marking keeps the length and goes list after list, what is marked after it, and a fresh map has no address marked.
use mathlib.Core.Path.{◌≡◌, refl, ap, sym, ◌∙◌}
use mathlib.Core.Bool.{Bool, true, false, ◌||◌}
use mathlib.Core.List.{List, [], ◌∷◌, ◌++◌}
use Prim.Native.Nat.{ℕ, zero, suc, ◌+◌, ◌*◌, ◌/◌, ◌%◌, ◌^◌, ◌<◌, max}
use native.Mathlib.Nat.{zero-div}
use native.Mathlib.Omega.{arith}
use native.Mathlib.Decide.{ℕ_discrete}
use lib.Bits.{bit_or, or_shr, or_step}
use lib.Dec.{eqb}
use lib.ListN.{length, get_or, replicate, length-set}
use lib.Seq.{get_or-set_same, get_or-set_other}
use borrow.Author.Tests.{eq-eqb, ne_eqb}
use Rattle.rules.specs.Base.{one, odd, mem, is_marked, marked, marks}
use Rattle.rules.specs.Tile.{map_size, fresh_map}
use Rattle.rules.proofs.Bits.{ones}
use Rattle.rules.proofs.Computed.{agree_below}

-- every address of the list is below n
unfoldable pub Below : ℕ → List ℕ → Type 0
Below n [] = Unit {0}
Below n (a ∷ l) = (a < n) × Below n l

pub length_marked : (m : List ℕ) (a : ℕ) → length (marked m a) ≡ length m
unfolding marked
length_marked m a = length-set m (a / 8) _

pub length-marks : (m l : List ℕ) → length (marks m l) ≡ length m
unfolding marks
length-marks m [] = refl
length-marks m (a ∷ l) = length-marks (marked m a) l ∙ length_marked m a

pub marks-append : (m l k : List ℕ) → marks m (l ++ k) ≡ marks (marks m l) k
unfolding marks
marks-append m [] k = refl
marks-append m (a ∷ l) k = marks-append (marked m a) l k

-- a bit of an or is a bit of one of the two
odd-or : (x y : ℕ) → odd (bit_or x y) ≡ (odd x || odd y)
odd-or x y =
    let e : bit_or x y % 2 ≡ max (x % 2) (y % 2) = omega (arith, or_step x y) in
    ap (λ k. eqb k 1) e ∙ go (x % 2) (y % 2) (omega arith) (omega arith)
  where
    go : (a b : ℕ) → a < 2 → b < 2 → eqb (max a b) 1 ≡ (eqb a 1 || eqb b 1)
    go zero zero h k = refl
    go zero (suc zero) h k = refl
    go (suc zero) zero h k = refl
    go (suc zero) (suc zero) h k = refl
    go zero (suc (suc b)) h k = absurd (omega arith)
    go (suc zero) (suc (suc b)) h k = absurd (omega arith)
    go (suc (suc a)) zero h k = absurd (omega arith)
    go (suc (suc a)) (suc b) h k = absurd (omega arith)

-- of eight bits one alone is set, computed at each
one_bit : (j k : ℕ) → j < 8 → k < 8 → odd (2 ^ j / 2 ^ k) ≡ eqb j k
one_bit j k h l =
    let pair : 8 * j + k < 64 = omega arith in
    let first : (8 * j + k) / 8 ≡ j = omega arith in
    let second : (8 * j + k) % 8 ≡ k = omega arith in
    ones _ _
    (rw (first, second) at
    (agree_below 64 (λ n. one (odd (2 ^ (n / 8) / 2 ^ (n % 8)))) (λ n. one (eqb (n / 8) (n % 8))) tt (8 * j + k) pair))

-- one address more is marked
marked_at : (m : List ℕ) (b a : ℕ) → a / 8 < length m → is_marked (marked m b) a ≡ (eqb a b || is_marked m a)
unfolding is_marked marked
marked_at m b a h = go (ℕ_discrete (a / 8) (b / 8))
  where
    go : Dec (a / 8 ≡ b / 8) → odd (get_or (marked m b) (a / 8) 0 / 2 ^ (a % 8)) ≡ (eqb a b || odd (get_or m (a / 8) 0 / 2 ^ (a % 8)))
    go (no e) =
        rw (get_or-set_other m (b / 8) (a / 8) _ 0 e, ne_eqb a b (λ q. e (ap (λ n. n / 8) q)))
    go (yes e) =
        let k : b / 8 < length m = omega arith in
        rw (e, get_or-set_same m (b / 8) _ 0 k, or_shr (get_or m (b / 8) 0) (2 ^ (b % 8)) (a % 8))
        (odd-or (get_or m (b / 8) 0 / 2 ^ (a % 8)) (2 ^ (b % 8) / 2 ^ (a % 8))
        ∙ ap (λ c. odd (get_or m (b / 8) 0 / 2 ^ (a % 8)) || c) (one_bit (b % 8) (a % 8) (omega arith) (omega arith))
        ∙ swap (odd (get_or m (b / 8) 0 / 2 ^ (a % 8))) (ℕ_discrete a b))
      where
        swap : (c : Bool) → Dec (a ≡ b) → (c || eqb (b % 8) (a % 8)) ≡ (eqb a b || c)
        swap true (yes q) = rw (eq-eqb a b q)
        swap true (no q) = rw (ne_eqb a b q)
        swap false (yes q) = rw (eq-eqb a b q) (eq-eqb (b % 8) (a % 8) (ap (λ n. n % 8) (sym q)))
        swap false (no q) = rw (ne_eqb a b q) (ne_eqb (b % 8) (a % 8) (λ p. q (omega arith)))

-- what is marked after the addresses of a list
pub marks_at : (l m : List ℕ) (a : ℕ) → a / 8 < length m → is_marked (marks m l) a ≡ (mem a l || is_marked m a)
unfolding marks mem
marks_at [] m a h = refl
marks_at (b ∷ l) m a h =
    marks_at l (marked m b) a (rw length_marked h)
    ∙ ap (λ c. mem a l || c) (marked_at m b a h)
    ∙ go (mem a l) (eqb a b) (is_marked m a)
  where
    go : (p q r : Bool) → (p || (q || r)) ≡ ((q || p) || r)
    go true true r = refl
    go true false r = refl
    go false true r = refl
    go false false r = refl

-- "A fresh bank is all zero with no byte marked written."
pub zeros_at : (n k : ℕ) → get_or (replicate n zero) k zero ≡ zero
zeros_at zero k = refl
zeros_at (suc n) zero = refl
zeros_at (suc n) (suc k) = zeros_at n k

pub fresh_unmarked : (a : ℕ) → is_marked fresh_map a ≡ false
unfolding is_marked
fresh_unmarked a = rw (zeros_at map_size (a / 8), zero-div)
