-- White space and words: the front of a text, what follows it, and a text without its end.
use mathlib.Core.Path.{◌≡◌, refl, ap, ◌∙◌}
use mathlib.Core.Bool.{Bool, true, false, cond, not}
use mathlib.Core.List.{List, [], ◌∷◌, ◌++◌}
use Prim.Native.Nat.{ℕ, suc, ◌+◌, ◌-◌, ◌<◌, ◌≤◌}
use native.Mathlib.Omega.{arith}
use native.Mathlib.Decide.{dec_lt}
use lib.Dec.{ltb}
use lib.ListN.{length, take, drop, length-drop}
use lib.Seq.{take_all}
use borrow.Author.Tests.{lt-ltb, le-ltb}
use Rattle.std.specs.Prelude.{Option, Some, None, unwrap_or}
use Rattle.std.specs.List.{position_or_len}
use Rattle.std.proofs.lemmas.List.Sums.{prefix_len-le-length}
use Rattle.rules.specs.Pam.{white, solid, front, behind, before, cut}
use Rattle.pam.proofs.Texts.{and_false, snoc_some}

pub not_solid : (b : ℕ) → white b ≡ not (solid b)
not_solid b = go (white b)
  where
    go : (t : Bool) → t ≡ not (not t)
    go true = refl
    go false = refl

-- The first byte of another kind, as `position` finds it.
module _ (f stop : ℕ → Bool) (other : (b : ℕ) → f b ≡ not (stop b)) where
  front_to : (s : List ℕ) → take (position_or_len stop s) s ≡ front f s
  unfolding front
  front_to [] = refl
  front_to (b ∷ s) = rw (front, other b) (go (stop b) (front_to s))
    where
      go : (t : Bool) → take (position_or_len stop s) s ≡ front f s
          → take (cond (not t) (1 + position_or_len stop s) 0) (b ∷ s) ≡ elim (not t) [ true ↦ b ∷ front f s | false ↦ [] ]
      go true ih = refl
      go false ih = let e : 1 + position_or_len stop s ≡ suc (position_or_len stop s) = omega arith in rw e (ap (λ (l : List ℕ). b ∷ l) ih)

  behind_from : (s : List ℕ) → drop (position_or_len stop s) s ≡ behind f s
  unfolding behind
  behind_from [] = refl
  behind_from (b ∷ s) = rw (behind, other b) (go (stop b) (behind_from s))
    where
      go : (t : Bool) → drop (position_or_len stop s) s ≡ behind f s
          → drop (cond (not t) (1 + position_or_len stop s) 0) (b ∷ s) ≡ elim (not t) [ true ↦ behind f s | false ↦ b ∷ s ]
      go true ih = refl
      go false ih = let e : 1 + position_or_len stop s ≡ suc (position_or_len stop s) = omega arith in rw e ih

  module _ (s : List ℕ) (r : Option ℕ) (k : ℕ)
      (found : r ≡ cond (ltb (position_or_len stop s) (length s)) (Some (position_or_len stop s)) None)
      (place : k ≡ unwrap_or r (length s)) where
    there : k ≡ position_or_len stop s
    there = place ∙ ap (λ (o : Option ℕ). unwrap_or o (length s)) found ∙ go (dec_lt (position_or_len stop s) (length s))
      where
        go : Dec (position_or_len stop s < length s)
            → unwrap_or (cond (ltb (position_or_len stop s) (length s)) (Some (position_or_len stop s)) None) (length s)
            ≡ position_or_len stop s
        go (yes h) = rw (lt-ltb _ _ h)
        go (no h) =
            let m : position_or_len stop s ≤ length s = prefix_len-le-length (λ b. not (stop b)) s in
            let l : length s ≤ position_or_len stop s = omega (arith, h) in
            rw (le-ltb _ _ l) (omega arith)

    pub front_is : take k s ≡ front f s
    front_is = rw there (front_to s)

    pub behind_is : drop k s ≡ behind f s
    behind_is = rw there (behind_from s)

    pub part_is : take (length s - k) (drop k s) ≡ behind f s
    part_is = take_all (length s - k) (drop k s) (omega (arith, length-drop k s)) ∙ behind_is

-- a byte more at the end: white space is cut, another stays with all before it
pub cut-white : (l : List ℕ) (b : ℕ) → white b ≡ true → cut (l ++ (b ∷ [])) ≡ cut l
unfolding cut
cut-white [] b e = rw e
cut-white (a ∷ l) b e = ap (before a) (cut-white l b e)

pub cut-kept : (l : List ℕ) (b : ℕ) → white b ≡ false → cut (l ++ (b ∷ [])) ≡ l ++ (b ∷ [])
unfolding cut
cut-kept [] b e = rw e
cut-kept (a ∷ l) b e = ap (before a) (cut-kept l b e) ∙ rw (snoc_some l b, and_false (white a))

pub cut_none : (l : List ℕ) → length l ≡ 0 → cut l ≡ l
unfolding cut
cut_none [] e = refl
cut_none (b ∷ l) e = absurd (omega (arith, e))
