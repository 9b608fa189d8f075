-- Two pairs of bytes differ exactly where they are other numbers.
use mathlib.Core.Path.{◌≡◌}
use mathlib.Core.Bool.{◌||◌}
use Prim.Native.Nat.{ℕ, ◌+◌, ◌*◌, ◌<◌}
use native.Mathlib.Decide.{ℕ_discrete}
use native.Mathlib.Omega.{arith}
use Rattle.reach.proofs.Differ.{differ, are_same, are_apart}

module _ (x y z u : ℕ) (a : x < 256) (b : y < 256) (c : z < 256) (d : u < 256) where
  pub pair_differ : differ (x + 256 * y) (z + 256 * u) ≡ (differ x z || differ y u)
  pair_differ = go (ℕ_discrete x z) (ℕ_discrete y u)
    where
      go : Dec (x ≡ z) → Dec (y ≡ u) → differ (x + 256 * y) (z + 256 * u) ≡ (differ x z || differ y u)
      go (yes p) (yes q) = rw (are_same x z p, are_same y u q) (are_same (x + 256 * y) (z + 256 * u) (omega arith))
      go (yes p) (no q) = rw (are_same x z p, are_apart y u q) (are_apart (x + 256 * y) (z + 256 * u) (λ e. q (omega arith)))
      go (no p) q = rw (are_apart x z p) (are_apart (x + 256 * y) (z + 256 * u) (λ e. p (omega arith)))
