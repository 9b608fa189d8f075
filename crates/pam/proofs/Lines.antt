-- The lines of a text, one at a time.
use mathlib.Core.Path.{◌≡◌, refl, ap, sym, ◌∙◌}
use mathlib.Core.Bool.{Bool, true, false, not, cond}
use mathlib.Core.List.{List, [], ◌∷◌, ◌++◌, append_assoc}
use Prim.Native.Nat.{ℕ, suc, ◌+◌, ◌-◌, ◌<◌, ◌≤◌}
use native.Mathlib.Omega.{arith}
use native.Mathlib.Decide.{dec_lt}
use lib.Dec.{eqb, ltb}
use lib.ListN.{length, take, drop}
use lib.Seq.{drop-drop}
use borrow.Author.Tests.{not-true, lt-ltb, le-ltb}
use Rattle.std.specs.Prelude.{Option, Some, None}
use Rattle.std.specs.List.{position_or_len}
use Rattle.rules.specs.Base.{all}
use Rattle.rules.specs.Pam.{onto, lines, ended}
use Rattle.rules.proofs.Ranges.{both}

-- no newline
abbrev pub plain : ℕ → Bool
plain b = not (eqb b 10)

-- what stands before a newline is a line
lines-first : (d s : List ℕ) → all plain d ≡ true → lines (d ++ (10 ∷ s)) ≡ d ∷ lines s
unfolding all lines
lines-first [] s h = refl
lines-first (b ∷ d) s h =
    let p = both (plain b) (all plain d) h in
    rw (lines, not-true (eqb b 10) p.0) (ap (onto b) (lines-first d s p.1))

-- lines that were written are read again, whatever follows
pub lines-ended : (ls : List (List ℕ)) (s : List ℕ) → all (all plain) ls ≡ true → lines (ended ls ++ s) ≡ ls ++ lines s
unfolding all ended
lines-ended [] s h = refl
lines-ended (l ∷ ls) s h =
    let p = both (all plain l) (all (all plain) ls) h in
    rw (append_assoc, lines-first l (ended ls ++ s) p.0, lines-ended ls s p.1)

-- a text's first newline, and the line before it
abbrev newline : List ℕ → ℕ
newline s = position_or_len (λ b. eqb b 10) s

line_is : (s : List ℕ) → lines s ≡ cond (ltb (newline s) (length s)) (take (newline s) s ∷ lines (drop (newline s + 1) s)) []
unfolding lines
line_is [] = refl
line_is (b ∷ s) = go (eqb b 10) (line_is s)
  where
    go : (t : Bool) → lines s ≡ cond (ltb (newline s) (length s)) (take (newline s) s ∷ lines (drop (newline s + 1) s)) []
        → elim t [ true ↦ [] ∷ lines s | false ↦ onto b (lines s) ]
        ≡ cond (ltb (cond (not t) (1 + newline s) 0) (suc (length s)))
        (take (cond (not t) (1 + newline s) 0) (b ∷ s) ∷ lines (drop (cond (not t) (1 + newline s) 0 + 1) (b ∷ s)))
        []
    go true ih = let h : 0 < suc (length s) = omega arith in rw (lt-ltb 0 (suc (length s)) h)
    go false ih = next (dec_lt (newline s) (length s))
      where
        one : 1 + newline s ≡ suc (newline s)
        one = omega arith

        next : Dec (newline s < length s)
            → onto b (lines s)
            ≡ cond (ltb (1 + newline s) (suc (length s))) (take (1 + newline s) (b ∷ s) ∷ lines (drop (1 + newline s + 1) (b ∷ s))) []
        next (yes h) =
            let k : suc (newline s) < suc (length s) = omega (arith, h) in
            let more : suc (newline s) + 1 ≡ suc (newline s + 1) = omega arith in
            ap (onto b) ih ∙ rw (lt-ltb _ _ h, one, more, lt-ltb _ _ k)
        next (no h) =
            let l : length s ≤ newline s = omega (arith, h) in
            let k : suc (length s) ≤ suc (newline s) = omega (arith, h) in
            ap (onto b) ih ∙ rw (le-ltb _ _ l, one, le-ltb _ _ k)

-- The line that begins a text, by where `position` finds its newline.
module _ (s : List ℕ) (r : Option ℕ) (found : r ≡ cond (ltb (newline s) (length s)) (Some (newline s)) None) where
  pub line_none : r ≡ None → lines s ≡ []
  line_none n = go (dec_lt (newline s) (length s))
    where
      go : Dec (newline s < length s) → lines s ≡ []
      go (yes h) = let e : None ≡ Some (newline s) = sym n ∙ found ∙ rw (lt-ltb _ _ h) in cc
      go (no h) = let l : length s ≤ newline s = omega (arith, h) in line_is s ∙ rw (le-ltb _ _ l)

  pub line_first : (k : ℕ) → r ≡ Some k → (k < length s) × (lines s ≡ take k s ∷ lines (drop (k + 1) s))
  line_first k n = go (dec_lt (newline s) (length s))
    where
      go : Dec (newline s < length s) → (k < length s) × (lines s ≡ take k s ∷ lines (drop (k + 1) s))
      go (yes h) =
          let e : Some k ≡ Some (newline s) = sym n ∙ found ∙ rw (lt-ltb _ _ h) in
          let i : k ≡ newline s = cc in
          rw i (h, line_is s ∙ rw (lt-ltb _ _ h))
      go (no h) =
          let l : length s ≤ newline s = omega (arith, h) in
          let e : Some k ≡ None = sym n ∙ found ∙ rw (le-ltb _ _ l) in
          cc

-- the same of a file's part from `at` on
pub line_at : (file : List ℕ) (at k : ℕ) → lines (drop at file) ≡ take k (drop at file) ∷ lines (drop (k + 1) (drop at file))
    → lines (drop at file) ≡ take (at + k - at) (drop at file) ∷ lines (drop (at + k + 1) file)
line_at file at k e =
    let n : at + k - at ≡ k = omega arith in
    let m : at + k + 1 ≡ at + (k + 1) = omega arith in
    e ∙ rw (n, m, drop-drop)
