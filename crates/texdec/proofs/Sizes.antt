-- The accepted pairs, size by size: none has a size above 3.
use mathlib.Core.Path.{◌≡◌, sym, ◌∙◌}
use mathlib.Core.Bool.{Bool, false, and-false}
use Prim.Native.Nat.{ℕ, zero, suc, ◌<◌}
use native.Mathlib.Omega.{arith}
use lib.Dec.{eqb}
use borrow.Author.Tests.{ne_eqb}
use Rattle.rules.specs.Base.{any}
use Rattle.rules.specs.Texdec.{accepted_direct}

none_above : (fmt siz : ℕ) → 3 < siz → accepted_direct fmt siz ≡ false
unfolding accepted_direct any
none_above fmt siz h =
    let other : (k : ℕ) → k < 4 → eqb siz k ≡ false = λ k l. ne_eqb siz k (λ e. omega arith) in
    simp (other 0 (omega arith), other 1 (omega arith), other 2 (omega arith), other 3 (omega arith), and-false)

-- a test that is the rule's at the sizes 0 to 3, and fails above
pub by_size : (fmt : ℕ) (f : ℕ → Bool) → f 0 ≡ accepted_direct fmt 0 → f 1 ≡ accepted_direct fmt 1 → f 2 ≡ accepted_direct fmt 2
    → f 3 ≡ accepted_direct fmt 3 → ((n : ℕ) → 3 < n → f n ≡ false) → (siz : ℕ) → f siz ≡ accepted_direct fmt siz
by_size fmt f a b c d e zero = a
by_size fmt f a b c d e (suc zero) = b
by_size fmt f a b c d e (suc (suc zero)) = c
by_size fmt f a b c d e (suc (suc (suc zero))) = d
by_size fmt f a b c d e (suc (suc (suc (suc n)))) =
    let h : 3 < suc (suc (suc (suc n))) = omega arith in
    e (suc (suc (suc (suc n)))) h ∙ sym (none_above fmt (suc (suc (suc (suc n)))) h)
