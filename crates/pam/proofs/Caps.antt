-- Tests that agree: of a number and of its cap, and of what is left after a header.
use mathlib.Core.Path.{◌≡◌, refl, sym, ◌∙◌}
use mathlib.Core.Bool.{Bool, true, false}
use Prim.Native.Nat.{ℕ, min, ◌+◌, ◌-◌, ◌<◌, ◌≤◌}
use native.Mathlib.Omega.{arith}
use native.Mathlib.Decide.{dec_lt}
use lib.Dec.{eqb, ltb}
use borrow.Author.Tests.{eq-eqb, ne_eqb, eqb-true, eqb-false, lt-ltb, le-ltb}
use Rattle.pam.specs.Line.{most}

-- one holds exactly where the other does
agree : (a b c d : ℕ) → (a < b → c < d) → (b ≤ a → d ≤ c) → ltb a b ≡ ltb c d
agree a b c d up down = go (dec_lt a b)
  where
    go : Dec (a < b) → ltb a b ≡ ltb c d
    go (yes h) = lt-ltb a b h ∙ sym (lt-ltb c d (up h))
    go (no h) =
        let l : b ≤ a = omega (arith, h) in
        le-ltb a b l ∙ sym (le-ltb c d (down l))

pub above-capped : (k n : ℕ) → k < most → ltb k (min n most) ≡ ltb k n
above-capped k n l = agree k (min n most) k n (λ h. omega (arith, h)) (λ h. omega (arith, l, h))

pub same-capped : (n k : ℕ) → k < most → eqb (min n most) k ≡ eqb n k
same-capped n k l = go (eqb n k) refl
  where
    go : (t : Bool) → eqb n k ≡ t → eqb (min n most) k ≡ t
    go true e = eq-eqb (min n most) k (omega (arith, l, eqb-true n k e))
    go false e = ne_eqb (min n most) k (λ m. eqb-false n k e (omega (arith, l, m)))

-- so many bytes after the header
pub left_over : (file size n : ℕ) → size ≤ file → ltb (file - size) n ≡ ltb file (size + n)
left_over file size n h = agree (file - size) n file (size + n) (λ l. omega (arith, h, l)) (λ l. omega (arith, h, l))
