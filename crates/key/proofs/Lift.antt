-- From a picture to a texel: the one of its readings that reads an address.
use mathlib.Core.Path.{◌≡◌, refl, ap, sym, ◌∙◌}
use mathlib.Core.Bool.{Bool, true, false, ◌||◌, true≢false}
use mathlib.Core.List.{List}
use Prim.Native.Nat.{ℕ, zero, suc, ◌<◌}
use native.Mathlib.Omega.{arith}
use Rattle.rules.specs.Base.{mem}
use Rattle.rules.specs.Reading.{Reading, trail, up_to}
use Rattle.rules.proofs.Readings.{trail_then}
use Rattle.rules.proofs.Tables.{mem-append}

-- the place of a reading that reads a, in a row of n
pub record Place (f : ℕ → Reading) (b : List ℕ) (n a : ℕ) : Type 0 where
  pub at : ℕ
  pub inside : at < n
  pub reads : mem a (trail (f at) b) ≡ true

-- an address that a row of readings reads is read by one of them
pub found : (f : ℕ → Reading) (b : List ℕ) (n a : ℕ) → mem a (trail (up_to n f) b) ≡ true → Place f b n a
unfolding up_to trail mem
found f b zero a h = absurd (true≢false (sym h))
found f b (suc n) a h =
    go (mem a (trail (up_to n f) b)) refl
    (sym (mem-append a (trail (up_to n f) b) (trail (f n) b)) ∙ ap (mem a) (sym (trail_then (up_to n f) (f n) b)) ∙ h)
    (found f b n a)
  where
    go : (t : Bool) → mem a (trail (up_to n f) b) ≡ t → (t || mem a (trail (f n) b)) ≡ true
        → (mem a (trail (up_to n f) b) ≡ true → Place f b n a) → Place f b (suc n) a
    go true e h' ih = let p = ih e in record { at = p.at; inside = omega (arith, p.inside); reads = p.reads }
    go false e h' ih = record { at = n; inside = omega arith; reads = h' }
