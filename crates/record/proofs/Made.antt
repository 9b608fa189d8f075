-- An array that was made by a closure which changes nothing.
use mathlib.Core.Path.{◌≡◌, refl, ◌∙◌}
use mathlib.Core.List.{List}
use Prim.Native.Nat.{ℕ, zero, suc, ◌+◌, ◌<◌}
use native.Mathlib.Omega.{arith}
use native.Mathlib.Nat.{zero-add, add-zero}
use lib.ListN.{get_or}
use denote.Param.Members.{Mut, Called}
use Rattle.std.specs.Array.{IsFromFnResult, IsFromFnResultFrom}

-- where each call answers what is wanted at its number, so is the element there
module _ {F B : Type 0} (g : Mut F (ℕ × Unit {0}) B) (f : F) (want : ℕ → B) (d : B)
    (one : (i : ℕ) (y : B) (q : F) → Called g f (i, tt) y q → (y ≡ want i) × (q ≡ f)) where
  from : (ys : List B) (i n : ℕ) (p : F) → p ≡ f → IsFromFnResultFrom g p ys i n → (j : ℕ) → j < n → get_or ys (i + j) d ≡ want (i + j)
  from ys i zero p e h j l = absurd (omega arith)
  from ys i (suc n) p e (q, y, at, call, rest) zero l =
      let k = one i y q (rw e at call) in
      simp add-zero (at.1 d ∙ k.0)
  from ys i (suc n) p e (q, y, at, call, rest) (suc j) l =
      let k = one i y q (rw e at call) in
      let next : (i + 1) + j ≡ i + suc j = omega arith in
      rw next at (from ys (i + 1) n q k.1 rest j (omega arith))

  pub made : (ys : List B) (n : ℕ) → IsFromFnResult g f ys n → (j : ℕ) → j < n → get_or ys j d ≡ want j
  made ys n h j l = simp zero-add at (from ys 0 n f refl h.each j l)
