-- The number that digits state, a digit at a time, and no more than the most.
use mathlib.Core.Path.{◌≡◌, refl, ap, sym, ◌∙◌}
use mathlib.Core.Bool.{Bool, true, false, not, ◌&&◌}
use mathlib.Core.List.{List, [], ◌∷◌, ◌++◌}
use Prim.Native.Nat.{ℕ, min, ◌+◌, ◌-◌, ◌*◌, ◌<◌, ◌≤◌}
use native.Mathlib.Omega.{arith}
use native.Mathlib.Decide.{dec_lt}
use native.Mathlib.Numerals.{add-one}
use lib.Dec.{ltb, leb}
use lib.ListN.{length, get_or, take}
use lib.Seq.{take-suc, take_all}
use borrow.Author.Tests.{eq-eqb, ne_eqb, lt-ltb, le-ltb}
use Rattle.std.proofs.lemmas.Bool.{le-leb, lt-leb}
use Rattle.std.specs.Prelude.{Some, None}
use Rattle.std.specs.Char.{is_ascii_digit}
use Rattle.rules.specs.Base.{all, empty}
use Rattle.rules.specs.Pam.{digit, number_from, number}
use Rattle.pam.specs.Line.{most, count_of}
use Rattle.pam.proofs.Texts.{and_false, all_more, all-not}

-- a digit more at the end
pub number_more : (n : ℕ) (l : List ℕ) (b : ℕ) → number_from n (l ++ (b ∷ [])) ≡ 10 * number_from n l + (b - 48)
unfolding number_from
number_more n [] b = refl
number_more n (a ∷ l) b = number_more (10 * n + (a - 48)) l b

-- the first i bytes are digits, and n is what they state
pub record Counted (s : List ℕ) (i n : ℕ) : Type 0 where
  pub digits : all digit (take i s) ≡ true
  pub is : n ≡ min (number (take i s)) most

pub counted_none : (s : List ℕ) → Counted s 0 0
unfolding all number_from
counted_none s = record { digits = refl; is = refl }

module _ (s : List ℕ) (i n : ℕ) (h : i < length s) (c : Counted s i n) where
  pub counted_more : (m : ℕ) → digit (get_or s i 0) ≡ true → m ≡ min (10 * n + (get_or s i 0 - 48)) most → Counted s (i + 1) m
  counted_more m d e =
      rw (add-one)
      (record {
        digits = rw (take-suc s i 0 h) (all_more digit (take i s) (get_or s i 0) c.digits d);
        is = e ∙ rw (take-suc s i 0 h, number_more 0 (take i s) (get_or s i 0)) (omega (arith, c.is));
      })

pub no_digit : (s : List ℕ) (i : ℕ) → i < length s → digit (get_or s i 0) ≡ false → None ≡ count_of s
no_digit s i h e = rw (all-not digit s i h e, and_false (not (empty s)))

some_of : (s : List ℕ) (n : ℕ) → all digit s ≡ true → n ≡ min (number s) most → (n ≡ 0 → ⊥) → Some n ≡ count_of s
unfolding number_from
some_of [] n d e h = absurd (h (omega (arith, e)))
some_of (a ∷ s) n d e h = rw (d, ne_eqb (number (a ∷ s)) 0 (λ z. h (omega (arith, e, z)))) (ap Some e)

none_of : (s : List ℕ) (n : ℕ) → all digit s ≡ true → n ≡ min (number s) most → n ≡ 0 → None ≡ count_of s
none_of [] n d e h = refl
none_of (a ∷ s) n d e h = rw (d, eq-eqb (number (a ∷ s)) 0 (omega (arith, e, h)))

-- all of them are digits
module _ (s : List ℕ) (i n : ℕ) (l : length s ≤ i) (c : Counted s i n) where
  whole : take i s ≡ s
  whole = take_all i s l

  pub some_digits : (n ≡ 0 → ⊥) → Some n ≡ count_of s
  some_digits = some_of s n (rw whole at c.digits) (rw whole at c.is)

  pub zero_digits : n ≡ 0 → None ≡ count_of s
  zero_digits = none_of s n (rw whole at c.digits) (rw whole at c.is)

-- what `is_ascii_digit` answers
pub digit_ascii : (b : ℕ) → digit b ≡ is_ascii_digit b
digit_ascii b = ap (λ (t : Bool). leb 48 b && t) (go (dec_lt b 58))
  where
    go : Dec (b < 58) → ltb b 58 ≡ leb b 57
    go (yes h) = let l : b ≤ 57 = omega arith in lt-ltb b 58 h ∙ sym (le-leb b 57 l)
    go (no h) =
        let l : 58 ≤ b = omega (arith, h) in
        let m : 57 < b = omega arith in
        le-ltb b 58 l ∙ sym (lt-leb b 57 m)

pub digit_is : (b : ℕ) → 48 ≤ b → b ≤ 57 → digit b ≡ true
digit_is b low high =
    let x : 47 < b = omega arith in
    let y : b < 58 = omega arith in
    rw (lt-ltb 47 b x, lt-ltb b 58 y)
