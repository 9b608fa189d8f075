-- The test that two numbers differ.
use mathlib.Core.Path.{◌≡◌, ap}
use mathlib.Core.Bool.{Bool, true, false, not}
use Prim.Native.Nat.{ℕ}
use lib.Dec.{eqb}
use borrow.Author.Tests.{eq-eqb, ne_eqb}

abbrev pub differ : ℕ → ℕ → Bool
differ a b = not (eqb a b)

pub are_apart : (a b : ℕ) → (a ≡ b → ⊥) → differ a b ≡ true
are_apart a b h = ap not (ne_eqb a b h)

pub are_same : (a b : ℕ) → a ≡ b → differ a b ≡ false
are_same a b h = ap not (eq-eqb a b h)
