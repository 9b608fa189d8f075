-- Texts compared, and what holds of all their bytes, a byte at a time.
use mathlib.Core.Path.{◌≡◌, refl, ap, sym, ◌∙◌}
use mathlib.Core.Bool.{Bool, true, false, false≢true, ◌&&◌}
use mathlib.Core.List.{List, [], ◌∷◌, ◌++◌}
use Prim.Native.Nat.{ℕ, zero, suc, ◌<◌}
use native.Mathlib.Omega.{arith}
use lib.Dec.{eqb}
use Rattle.std.specs.Prelude.{◌==◌}
use lib.ListN.{length, get_or, take}
use borrow.Author.Tests.{eqb-true, eqb-false, eq-eqb, ne_eqb}
use Rattle.std.specs.Cmp.Lexicographic.{pointwise}
use Rattle.rules.specs.Base.{all, empty, same}
use Rattle.rules.proofs.Ranges.{both}

pub and_false : (t : Bool) → (t && false) ≡ false
and_false true = refl
and_false false = refl

pub snoc_some : (l : List ℕ) (b : ℕ) → empty (l ++ (b ∷ [])) ≡ false
snoc_some [] b = refl
snoc_some (a ∷ l) b = refl

-- a byte more at the end of a text
pub all_more : (f : ℕ → Bool) (l : List ℕ) (b : ℕ) → all f l ≡ true → f b ≡ true → all f (l ++ (b ∷ [])) ≡ true
unfolding all
all_more f [] b h e = rw e
all_more f (a ∷ l) b h e = let p = both (f a) (all f l) h in rw p.0 (all_more f l b p.1 e)

-- a byte of which it does not hold
pub all-not : (f : ℕ → Bool) (s : List ℕ) (i : ℕ) → i < length s → f (get_or s i 0) ≡ false → all f s ≡ false
unfolding all
all-not f [] i h e = absurd (omega arith)
all-not f (a ∷ s) zero h e = rw e
all-not f (a ∷ s) (suc i) h e = ap (λ (r : Bool). f a && r) (all-not f s i (omega arith) e) ∙ and_false (f a)

-- `==` of the texts' bytes
pub bytes_same : (s t : List ℕ) → pointwise eqb s t ≡ same s t
unfolding same
bytes_same [] [] = refl
bytes_same [] (b ∷ t) = refl
bytes_same (a ∷ s) [] = refl
bytes_same (a ∷ s) (b ∷ t) = ap (λ (r : Bool). eqb a b && r) (bytes_same s t)

-- what `starts_with` answers
bytes_turned : (s t : List ℕ) → pointwise eqb s t ≡ same t s
unfolding same
bytes_turned [] [] = refl
bytes_turned [] (b ∷ t) = refl
bytes_turned (a ∷ s) [] = refl
bytes_turned (a ∷ s) (b ∷ t) = λ i. turned i && bytes_turned s t i
  where
    turned : eqb a b ≡ eqb b a
    turned = go (eqb b a) refl
      where
        go : (r : Bool) → eqb b a ≡ r → eqb a b ≡ r
        go true e = eq-eqb a b (sym (eqb-true b a e))
        go false e = ne_eqb a b (λ k. eqb-false b a e (sym k))

pub starts_same : (p s : List ℕ) → pointwise eqb p (take (length p) s) ≡ same (take (length p) s) p
starts_same p s = bytes_turned p (take (length p) s)

pub same_is : (s t : List ℕ) → same s t ≡ true → s ≡ t
unfolding same
same_is [] [] h = refl
same_is [] (b ∷ t) h = absurd (false≢true h)
same_is (a ∷ s) [] h = absurd (false≢true h)
same_is (a ∷ s) (b ∷ t) h =
    let p = both (eqb a b) (same s t) h in
    let e : a ≡ b = eqb-true a b p.0 in
    let r : s ≡ t = same_is s t p.1 in
    cc

-- what `is_empty` answers
pub none-empty : (s : List ℕ) (t : Bool) → t ≡ (length s == 0) → empty s ≡ t
none-empty [] t h = sym h
none-empty (b ∷ s) t h = sym (h ∙ ne_eqb (suc (length s)) 0 (λ e. omega arith))
