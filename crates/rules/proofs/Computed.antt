-- A fact about all numbers below a bound, by one test that antt computes at each of them.
use mathlib.Core.Path.{◌≡◌, subst, sym}
use mathlib.Core.Bool.{Bool, true, false, ◌&&◌}
use Prim.Native.Nat.{ℕ, zero, suc, ◌<◌}
use native.Mathlib.Omega.{arith}
use native.Mathlib.Decide.{ℕ_discrete}
use lib.Dec.{T, eqb, eqb→eq}

-- f holds of every number below n
abbrev pub all : ℕ → (ℕ → Bool) → Bool
all zero f = true
all (suc n) f = f n && all n f

pub both_left : (a b : Bool) → T (a && b) → T a
both_left true b t = tt
both_left false b t = t

pub both_right : (a b : Bool) → T (a && b) → T b
both_right true b t = t
both_right false b t = absurd t

pub computed : (n : ℕ) (f : ℕ → Bool) → T (all n f) → (k : ℕ) → k < n → T (f k)
computed zero f t k h = absurd (omega arith)
computed (suc n) f t k h = go (ℕ_discrete k n) (computed n f (both_right (f n) (all n f) t) k)
  where
    go : Dec (k ≡ n) → (k < n → T (f k)) → T (f k)
    go (yes e) ih = subst (λ (m : ℕ). T (f m)) (sym e) (both_left (f n) (all n f) t)
    go (no e) ih = ih (omega (arith, e))

-- two functions that agree below n
pub agree_below : (n : ℕ) (f g : ℕ → ℕ) → T (all n (λ k. eqb (f k) (g k))) → (k : ℕ) → k < n → f k ≡ g k
agree_below n f g t k h = eqb→eq (f k) (g k) (computed n (λ k. eqb (f k) (g k)) t k h)
