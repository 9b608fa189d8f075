-- The addresses of a texel go to the trail one after the other, two bytes each, but no more than so many.
use mathlib.Core.Path.{◌≡◌, refl}
use mathlib.Core.List.{List, [], ◌∷◌}
use Prim.Native.Nat.{ℕ, ◌+◌, ◌*◌, ◌<◌, ◌≤◌}
use native.Mathlib.Decide.{dec_lt}
use native.Mathlib.Numerals.{add-one}
use native.Mathlib.Omega.{arith}
use lib.ListN.{length, get_or, take, length-take}
use lib.Seq.{take-suc}
use borrow.Author.Tests.{lt-ltb, le-ltb}
use Rattle.rules.specs.Base.{over}
use Rattle.rules.specs.Reading.{encoded}
use Rattle.rules.proofs.Over.{length_over}
use Rattle.rules.proofs.Parts.{Parts}
use Rattle.rules.proofs.Readings.{encoded-append, length-encoded}
use Rattle.decoder.specs.Rows.{capped}

-- the addresses of a list
pub addresses : (l : List ℕ) (n : ℕ) → n ≤ length l → Parts n (λ i. encoded (get_or l i 0 ∷ [])) (λ i. encoded (take i l)) 2
unfolding encoded
addresses l n h =
    record {
      none = refl;
      more = λ i p. let q : i < length l = omega arith in rw (add-one, take-suc l i 0 q) (encoded-append (take i l) (get_or l i 0 ∷ []));
      each = λ i p. refl;
    }

pub capped_none : (count : ℕ) → capped 0 count ≡ 0
capped_none count = go (dec_lt 0 count)
  where
    go : Dec (0 < count) → capped 0 count ≡ 0
    go (yes p) = rw (lt-ltb 0 count p)
    go (no p) = let q : count ≤ 0 = omega arith in rw (le-ltb 0 count q) (omega arith)

module _ (i count : ℕ) where
  pub capped_below : i < count → capped i count ≡ i
  capped_below h = rw (lt-ltb i count h)

  pub capped_next : i < count → capped (i + 1) count ≡ i + 1
  capped_next h = go (dec_lt (i + 1) count)
    where
      go : Dec (i + 1 < count) → capped (i + 1) count ≡ i + 1
      go (yes p) = rw (lt-ltb (i + 1) count p)
      go (no p) = let q : count ≤ i + 1 = omega arith in rw (le-ltb (i + 1) count q) (omega arith)

  pub capped_end : count ≤ i → capped i count ≡ count
  capped_end h = rw (le-ltb i count h)

-- the buffer keeps its length
pub noted-length : (reads old : List ℕ) (i count : ℕ) → 2 * count ≤ length old
    → length (over (encoded (take (capped i count) reads)) old) ≡ length old
noted-length reads old i count h =
    length_over _ old (rw (length-encoded) (omega (arith, few (dec_lt i count), length-take (capped i count) reads)))
  where
    few : Dec (i < count) → capped i count ≤ count
    few (yes p) = rw (capped_below i count p) (omega arith)
    few (no p) = let q : count ≤ i = omega arith in rw (capped_end i count q) (omega arith)
