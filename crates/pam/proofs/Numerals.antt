-- A number's decimal digits, read back.
use mathlib.Core.Path.{◌≡◌, refl, ◌∙◌}
use mathlib.Core.Bool.{true, false}
use mathlib.Core.List.{List, [], ◌∷◌}
use Prim.Native.Nat.{ℕ, zero, suc, ◌+◌, ◌/◌, ◌%◌, ◌^◌, ◌<◌, ◌≤◌}
use native.Mathlib.Omega.{arith}
use native.Mathlib.Decide.{dec_lt}
use lib.Dec.{ltb}
use borrow.Author.Tests.{ltb-true, lt-ltb, le-ltb, ne_eqb}
use Rattle.rules.specs.Base.{all, empty}
use Rattle.rules.specs.Tile.{side_limit}
use Rattle.rules.specs.Lister.{decimal}
use Rattle.rules.specs.Pam.{white, behind, trimmed, cut, digit, number_from, number, is_count}
use Rattle.rules.proofs.Ranges.{both}
use Rattle.decimal.proofs.Decimals.{decimal-one, decimal-more}
use Rattle.pam.proofs.Texts.{all_more, snoc_some}
use Rattle.pam.proofs.Counts.{number_more, digit_is}
use Rattle.pam.proofs.Lines.{plain}

-- The decimal digits of a number: digits, one at least, and that number.
pub record Numeral (n : ℕ) (l : List ℕ) : Type 0 where
  pub digits : all digit l ≡ true
  pub some : empty l ≡ false
  pub value : number l ≡ n

numeral_fuel : (fuel n : ℕ) → n < fuel → n < 2 ^ 32 → Numeral n (decimal n)
unfolding all number_from
numeral_fuel zero n h l = absurd (omega arith)
numeral_fuel (suc fuel) n h l = go (dec_lt n 10) (λ g. numeral_fuel fuel (n / 10) g (omega arith))
  where
    go : Dec (n < 10) → (n / 10 < fuel → Numeral (n / 10) (decimal (n / 10))) → Numeral n (decimal n)
    go (yes s) ih =
        let d = digit_is (n + 48) (omega arith) (omega (arith, s)) in
        rw (decimal-one n s) (record { digits = rw d; some = refl; value = omega arith })
    go (no s) ih =
        let m : 10 ≤ n = omega (arith, s) in
        let less : n / 10 < fuel = omega arith in
        let k : Numeral (n / 10) (decimal (n / 10)) = ih less in
        let d : n % 10 < 10 = omega arith in
        rw (decimal-more n m l)
        (record {
          digits = all_more digit (decimal (n / 10)) (n % 10 + 48) k.digits (digit_is (n % 10 + 48) (omega arith) (omega (arith, d)));
          some = snoc_some (decimal (n / 10)) (n % 10 + 48);
          value = number_more 0 (decimal (n / 10)) (n % 10 + 48) ∙ rw k.value (omega arith);
        })

pub numeral : (n : ℕ) → n ≤ side_limit → Numeral n (decimal n)
numeral n l = numeral_fuel (suc n) n (omega arith) (omega arith)

pub numeral_counts : (n : ℕ) (d : List ℕ) → Numeral n d → 1 ≤ n → is_count d ≡ true
numeral_counts n d k h =
    let z : number d ≡ 0 → ⊥ = λ z. omega (arith, k.value, z) in
    rw (k.some, k.digits, ne_eqb (number d) 0 z)

-- Digits are neither white space nor newlines.
digit_from : (b : ℕ) → digit b ≡ true → 48 ≤ b
digit_from b h = omega (arith, ltb-true 47 b (both (ltb 47 b) (ltb b 58) h).0)

digit-white : (b : ℕ) → digit b ≡ true → white b ≡ false
digit-white b h =
    let l : 48 ≤ b = digit_from b h in
    let n : b ≡ 32 → ⊥ = λ e. omega (arith, e) in
    let m : 14 ≤ b = omega arith in
    let k : 8 < b = omega arith in
    rw (ne_eqb b 32 n, lt-ltb 8 b k, le-ltb b 14 m)

pub digits_plain : (d : List ℕ) → all digit d ≡ true → all plain d ≡ true
unfolding all
digits_plain [] h = refl
digits_plain (b ∷ d) h =
    let p = both (digit b) (all digit d) h in
    let l : 48 ≤ b = digit_from b p.0 in
    rw (ne_eqb b 10 (λ e. omega (arith, e))) (digits_plain d p.1)

pub digits_trimmed : (d : List ℕ) → all digit d ≡ true → trimmed d ≡ d
unfolding all behind
digits_trimmed [] h = refl
digits_trimmed (b ∷ d) h = rw (behind, digit-white b (both (digit b) (all digit d) h).0)

pub digits_cut : (d : List ℕ) → all digit d ≡ true → cut d ≡ d
unfolding all cut
digits_cut [] h = refl
digits_cut (b ∷ d) h = let p = both (digit b) (all digit d) h in rw (cut, digit-white b p.0, digits_cut d p.1)
