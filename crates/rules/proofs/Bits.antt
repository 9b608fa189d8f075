-- Or goes together; bits of a byte that are set one after the other; a yes or no by its number.
use mathlib.Core.Path.{◌≡◌, refl, ap}
use mathlib.Core.Bool.{Bool, true, false}
use mathlib.Core.List.{List, [], ◌∷◌}
use Prim.Native.Nat.{ℕ, zero, suc, ◌/◌}
use native.Mathlib.Omega.{arith}
use lib.Arith.{bin_ind}
use lib.Bits.{bit_or, or_shr, or_step, or_zero_l}
use lib.ListN.{get_or, set}
use Rattle.rules.specs.Base.{one}

abbrev Together : ℕ → Type 0
Together a = (b c : ℕ) → bit_or (bit_or a b) c ≡ bit_or a (bit_or b c)

or_assoc : (a b c : ℕ) → bit_or (bit_or a b) c ≡ bit_or a (bit_or b c)
or_assoc = bin_ind Together (λ b c. rw (or_zero_l b, or_zero_l (bit_or b c))) step
  where
    step : (n : ℕ) → Together (n / 2) → Together n
    step n ih b c =
        let l = rw (or_shr n b 1, ih (b / 2) (c / 2)) at (or_step (bit_or n b) c) in
        let r = rw (or_shr b c 1) at (or_step n (bit_or b c)) in
        omega (arith, l, r, or_step n b, or_step b c)

pub more_bits : (m : List ℕ) (w a b : ℕ) → let n = set m w (bit_or (get_or m w 0) a) in
    set n w (bit_or (get_or n w 0) b) ≡ set m w (bit_or (get_or m w 0) (bit_or a b))
more_bits [] w a b = refl
more_bits (x ∷ m) zero a b = ap (λ v. v ∷ m) (or_assoc x a b)
more_bits (x ∷ m) (suc w) a b = ap (λ l. x ∷ l) (more_bits m w a b)

pub ones : (a b : Bool) → one a ≡ one b → a ≡ b
ones true true e = refl
ones true false e = absurd (omega (arith, e))
ones false true e = absurd (omega (arith, e))
ones false false e = refl
