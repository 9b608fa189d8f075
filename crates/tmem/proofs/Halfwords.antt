-- The numbers of a halfword: they keep the record's length, and go into the part of it that starts with them.
use mathlib.Core.Path.{◌≡◌, refl, ap, ◌∙◌}
use mathlib.Core.List.{List, [], ◌∷◌, ◌++◌}
use Prim.Native.Nat.{ℕ, ◌+◌, ◌*◌, ◌/◌, ◌%◌, ◌≤◌}
use native.Mathlib.Omega.{arith}
use lib.ListN.{length, set, take, drop, length-drop, take-append-drop}
use lib.Seq.{drop-set-add, take-set-le}
use Rattle.rules.specs.Base.{stamped}

-- address a and the next have the number n
abbrev pub both_stamped : ℕ → List ℕ → ℕ → List ℕ
both_stamped n m a = stamped n (stamped n m a) (a + 1)

-- of a part that starts with them
front : (n : ℕ) (l : List ℕ) → 4 ≤ length l → n / 256 ∷ n % 256 ∷ n / 256 ∷ n % 256 ∷ drop 4 l ≡ both_stamped n l 0
unfolding stamped
front n (a ∷ b ∷ c ∷ d ∷ l) h = refl
front n [] h = absurd (omega arith)
front n (a ∷ []) h = absurd (omega arith)
front n (a ∷ b ∷ []) h = absurd (omega arith)
front n (a ∷ b ∷ c ∷ []) h = absurd (omega arith)

module _ (n : ℕ) (m : List ℕ) (a : ℕ) where
  -- what comes before the halfword's numbers stays
  before : take (2 * a) (both_stamped n m a) ≡ take (2 * a) m
  unfolding stamped
  before =
      take-set-le (2 * a) _ (2 * (a + 1) + 1) _ (omega arith)
      ∙ take-set-le (2 * a) _ (2 * (a + 1)) _ (omega arith)
      ∙ take-set-le (2 * a) _ (2 * a + 1) _ (omega arith)
      ∙ take-set-le (2 * a) m (2 * a) _ (omega arith)

  -- the part that starts with them has them at its front
  from_there : drop (2 * a) (both_stamped n m a) ≡ both_stamped n (drop (2 * a) m) 0
  unfolding stamped
  from_there =
      let e₀ : 2 * a ≡ 2 * a + 0 = omega arith in
      let e₂ : 2 * (a + 1) ≡ 2 * a + 2 = omega arith in
      let e₃ : 2 * (a + 1) + 1 ≡ 2 * a + 3 = omega arith in
      let h = n / 256 in
      let l = n % 256 in
      (λ i. drop (2 * a) (set (set (set (set m (e₀ i) h) (2 * a + 1) l) (e₂ i) h) (e₃ i) l))
      ∙ drop-set-add (2 * a) _ 3 l
      ∙ ap (λ x. set x 3 l) (drop-set-add (2 * a) _ 2 h)
      ∙ ap (λ x. set (set x 2 h) 3 l) (drop-set-add (2 * a) _ 1 l)
      ∙ ap (λ x. set (set (set x 1 l) 2 h) 3 l) (drop-set-add (2 * a) m 0 h)

  -- so a part of four bytes that is lent from there on comes back with them
  pub both_back : 2 * a + 4 ≤ length m → take (2 * a) m ++ (n / 256 ∷ n % 256 ∷ n / 256 ∷ n % 256 ∷ drop 4 (drop (2 * a) m))
      ≡ both_stamped n m a
  both_back long =
      let whole : take (2 * a) (both_stamped n m a) ++ drop (2 * a) (both_stamped n m a) ≡ both_stamped n m a =
      take-append-drop (2 * a) (both_stamped n m a) in
      rw (front n (drop (2 * a) m) (omega (arith, length-drop (2 * a) m)), ← from_there, ← before) whole
