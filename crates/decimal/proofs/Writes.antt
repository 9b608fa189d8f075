-- A list written over the front of a buffer, an element or a part more at a time.
use mathlib.Core.Path.{◌≡◌, refl, ap, sym, ◌∙◌}
use mathlib.Core.List.{List, [], ◌∷◌, ◌++◌, append_assoc}
use Prim.Native.Nat.{ℕ, ◌+◌, ◌-◌, ◌<◌, ◌≤◌}
use native.Mathlib.Numerals.{add-one}
use native.Mathlib.Omega.{arith}
use lib.ListN.{length, set, take, drop, length-append, length-drop, take-append-drop}
use lib.Seq.{drop-cons, set_at, take_at, drop-append-add, drop-drop, length-take-le}
use Rattle.rules.specs.Base.{over}
use Rattle.rules.proofs.Over.{over-back}

-- a store where the list ends
pub over-one : (a old : List ℕ) (v n : ℕ) → length a ≡ n → n < length old → set (over a old) n v ≡ over (a ++ (v ∷ [])) old
unfolding over
over-one a old v n e h = rw (length-append, e, drop-cons old n 0 h, set_at a _ _ v n e, append_assoc, add-one)

-- a text stands over the front of a buffer and ends at `at`
pub record Wrote (text old : List ℕ) (at : ℕ) (xs : List ℕ) : Type 0 where
  pub is : xs ≡ over text old
  pub end : at ≡ length text

-- nothing is written yet
pub wrote_none : (old : List ℕ) → Wrote [] old 0 old
unfolding over
wrote_none old = record { is = refl; end = refl }

-- the first bytes of a buffer stand where they stood
pub wrote_start : (out : List ℕ) (at : ℕ) → at ≤ length out → Wrote (take at out) out at out
unfolding over
wrote_start out at h =
    let n : length (take at out) ≡ at = length-take-le at out h in
    record { is = sym (rw (n, take-append-drop)); end = sym n }

-- a part more, written where the text ends
pub wrote_more : (text old : List ℕ) (at : ℕ) (xs part ys : List ℕ) (end : ℕ) → Wrote text old at xs → end ≡ at + length part
    → ys ≡ over (take at xs ++ part) xs → Wrote (text ++ part) old end ys
unfolding over
wrote_more text old at xs part ys end w e h =
    record {
      is = h ∙ rw (w.is, take_at text _ at (sym w.end), length-append, drop-append-add, drop-drop);
      end = rw (e, w.end, length-append);
    }

-- the part of a buffer that is lent from `at` on, and the buffer once the part is back as ys
abbrev pub lent : List ℕ → ℕ → List ℕ
lent xs at = take (length xs - at) (drop at xs)

abbrev pub back : List ℕ → ℕ → List ℕ → List ℕ
back xs at ys = take at xs ++ (ys ++ drop (length xs - at) (drop at xs))

-- the part comes back with v over its front
pub over_lent : (v xs ys : List ℕ) (at : ℕ) → at ≤ length xs → ys ≡ over v (lent xs at) → back xs at ys ≡ over (take at xs ++ v) xs
over_lent v xs ys at h e = let w = wrote_start xs at h in over-back (take at xs) v xs xs ys at w.is (sym w.end) e

-- what was written over a buffer that kept its length had room in it
pub over_within : (v old xs : List ℕ) → xs ≡ over v old → length xs ≡ length old → length v ≤ length old
unfolding over
over_within v old xs e n = omega (arith, simp (length-append, length-drop) at (ap length e))
