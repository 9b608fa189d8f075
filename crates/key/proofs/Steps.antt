-- The places of a word that are a step of 1 or 2 apart.
use mathlib.Core.Path.{◌≡◌}
use Prim.Native.Nat.{ℕ, zero, suc, ◌*◌, ◌/◌, ◌%◌, ◌<◌, ◌≤◌}
use native.Mathlib.Omega.{arith}

-- a place stands in its word
pub place_small : (step k : ℕ) → 0 < step → step ≤ 2 → k < 8 / step → step * k < 8
place_small zero k p q h = absurd (omega arith)
place_small (suc zero) k p q h = omega arith
place_small (suc (suc zero)) k p q h = omega arith
place_small (suc (suc (suc n))) k p q h = absurd (omega arith)

pub place_apart : (step k : ℕ) → 0 < step → step ≤ 2 → step * k % step ≡ 0
place_apart zero k p q = absurd (omega arith)
place_apart (suc zero) k p q = omega arith
place_apart (suc (suc zero)) k p q = omega arith
place_apart (suc (suc (suc n))) k p q = absurd (omega arith)

-- and what stands so is a place
pub place_of : (step at : ℕ) → 0 < step → step ≤ 2 → at < 8 → at % step ≡ 0 → (at / step < 8 / step) × (at ≡ step * (at / step))
place_of zero at p q h e = absurd (omega arith)
place_of (suc zero) at p q h e = (omega arith, omega arith)
place_of (suc (suc zero)) at p q h e = (omega arith, omega arith)
place_of (suc (suc (suc n))) at p q h e = absurd (omega arith)
