-- Parts of lists. Records of one size, one after the other: an input that ends with a whole record, and another after it.
use mathlib.Core.Path.{◌≡◌, refl, ◌∙◌}
use mathlib.Core.List.{List, [], ◌∷◌, ◌++◌}
use Prim.Native.Nat.{ℕ, zero, suc, ◌+◌, ◌*◌, ◌<◌, ◌≤◌}
use native.Mathlib.Omega.{arith}
use native.Mathlib.Nat.{suc-mul, add-mul, mul-le-mul_right}
use lib.ListN.{length, take, drop, length-drop}
use lib.Seq.{take-take, take-append-le, drop-append-le, drop-append-add}
use Rattle.rules.specs.Base.{tab, record_of}
use Rattle.rules.proofs.Tables.{tab-same, tab-cut}

-- a part of a piece is that part of the whole
pub take-drop-take : (b n a : ℕ) (l : List ℕ) → b + a ≤ n → take a (drop b (take n l)) ≡ take a (drop b l)
take-drop-take zero n a l h = take-take a n l (omega arith)
take-drop-take (suc b) zero a l h = absurd (omega arith)
take-drop-take (suc b) (suc n) a [] h = refl
take-drop-take (suc b) (suc n) a (x ∷ l) h = take-drop-take b n a l (omega arith)

module _ (size n : ℕ) (a b : List ℕ) (whole : length a ≡ n * size) where
  here : (i : ℕ) → i < n → record_of size (a ++ b) i ≡ record_of size a i
  here i h =
      let k = mul-le-mul_right size h in
      let l : i * size ≤ length a = omega (arith, suc-mul i size) in
      let m : size ≤ length (drop (i * size) a) = rw length-drop (omega (arith, suc-mul i size)) in
      rw (drop-append-le (i * size) a b l, take-append-le size (drop (i * size) a) b m)

  after : (j : ℕ) → record_of size (a ++ b) (n + j) ≡ record_of size b j
  after j =
      let e : (n + j) * size ≡ length a + j * size = omega (arith, add-mul n j size) in
      rw (e, drop-append-add)

  pub records_append : (m : ℕ) → tab (n + m) (record_of size (a ++ b)) ≡ tab n (record_of size a) ++ tab m (record_of size b)
  records_append m =
      let own = tab-same n (record_of size (a ++ b)) (record_of size a) here in
      let rest = tab-same m (λ j. record_of size (a ++ b) (n + j)) (record_of size b) (λ j h. after j) in
      tab-cut n m (record_of size (a ++ b)) ∙ rw (own, rest)
