-- A number's decimal digits: one digit, or those of its tenth and one more; ten at most.
use mathlib.Core.Path.{◌≡◌, refl, sym, ◌∙◌}
use mathlib.Core.List.{List, [], ◌∷◌, ◌++◌, append_assoc}
use Prim.Native.Nat.{ℕ, zero, suc, ◌+◌, ◌/◌, ◌%◌, ◌^◌, ◌<◌, ◌≤◌}
use native.Mathlib.Omega.{arith}
use native.Mathlib.Decide.{dec_lt}
use native.Mathlib.Nat.{pow-suc}
use lib.ListN.{length}
use borrow.Author.Tests.{lt-ltb, le-ltb}
use Rattle.rules.specs.Lister.{low_digits, reversed, decimal}

reversed-append : (l done : List ℕ) → reversed l done ≡ reversed l [] ++ done
unfolding reversed
reversed-append [] done = refl
reversed-append (d ∷ l) done = reversed-append l (d ∷ done) ∙ sym (rw (reversed-append l (d ∷ []), append_assoc))

length-reversed : (l done : List ℕ) → length (reversed l done) ≡ length l + length done
unfolding reversed
length-reversed [] done = omega arith
length-reversed (d ∷ l) done = length-reversed l (d ∷ done) ∙ omega arith

low_one : (fuel n : ℕ) → n < 10 → low_digits (suc fuel) n ≡ (n + 48) ∷ []
unfolding low_digits
low_one fuel n h = rw (lt-ltb n 10 h, low_digits)

low_more : (fuel n : ℕ) → 10 ≤ n → low_digits (suc fuel) n ≡ (n % 10 + 48) ∷ low_digits fuel (n / 10)
unfolding low_digits
low_more fuel n h = rw (le-ltb n 10 h, low_digits)

few_digits : (fuel n : ℕ) → length (low_digits fuel n) ≤ fuel
unfolding low_digits
few_digits zero n = omega arith
few_digits (suc fuel) n = go (dec_lt n 10) (few_digits fuel (n / 10))
  where
    go : Dec (n < 10) → length (low_digits fuel (n / 10)) ≤ fuel → length (low_digits (suc fuel) n) ≤ suc fuel
    go (yes l) h = rw (low_one fuel n l) (omega arith)
    go (no l) h = let m : 10 ≤ n = omega (arith, l) in rw (low_more fuel n m) (omega arith)

-- fuel for a digit more changes nothing where there was enough
enough : (fuel n : ℕ) → n < 10 ^ suc fuel → low_digits (suc fuel) n ≡ low_digits (suc (suc fuel)) n
enough zero n h = low_one 0 n h ∙ sym (low_one 1 n h)
enough (suc fuel) n h = go (dec_lt n 10) (enough fuel (n / 10))
  where
    go : Dec (n < 10) → (n / 10 < 10 ^ suc fuel → low_digits (suc fuel) (n / 10) ≡ low_digits (suc (suc fuel)) (n / 10))
        → low_digits (suc (suc fuel)) n ≡ low_digits (suc (suc (suc fuel))) n
    go (yes l) ih = low_one (suc fuel) n l ∙ sym (low_one (suc (suc fuel)) n l)
    go (no l) ih =
        let m : 10 ≤ n = omega (arith, l) in
        let less : n / 10 < 10 ^ suc fuel = omega (arith, pow-suc 10 (suc fuel)) in
        rw (low_more (suc fuel) n m, low_more (suc (suc fuel)) n m, ih less)

pub decimal_short : (n : ℕ) → length (decimal n) ≤ 10
unfolding decimal
decimal_short n = omega (arith, length-reversed (low_digits 10 n) [], few_digits 10 n)

pub decimal-one : (n : ℕ) → n < 10 → decimal n ≡ (n + 48) ∷ []
unfolding decimal reversed
decimal-one n h = rw (low_one 9 n h)

pub decimal-more : (n : ℕ) → 10 ≤ n → n < 2 ^ 32 → decimal n ≡ decimal (n / 10) ++ (n % 10 + 48) ∷ []
unfolding decimal reversed
decimal-more n h l =
    let less : n / 10 < 10 ^ 9 = omega arith in
    rw (low_more 9 n h, enough 8 (n / 10) less) (reversed-append (low_digits 10 (n / 10)) ((n % 10 + 48) ∷ []))
