-- Two bodies that are the same up to a place, and the first pair of bytes from there on that differ.
use mathlib.Core.Path.{◌≡◌, sym, ◌∙◌}
use mathlib.Core.Bool.{cond, not}
use mathlib.Core.List.{List}
use Prim.Native.Nat.{ℕ, ◌+◌, ◌-◌, ◌<◌, ◌≤◌}
use native.Mathlib.Omega.{arith}
use native.Mathlib.Decide.{dec_lt}
use lib.Dec.{eqb, ltb}
use lib.ListN.{length, get_or, drop, length-drop}
use lib.Seq.{get_or-drop}
use borrow.Author.Tests.{eqb-true, not-false, lt-ltb}
use Rattle.std.specs.Prelude.{Option, Some, None}
use Rattle.std.specs.List.{zip, position_or_len}
use Rattle.std.proofs.lemmas.Slice.Zip.{length-zip, get_or-zip}
use Rattle.std.proofs.lemmas.List.Sums.{fails_before_first}
use Rattle.splitter.specs.Bodies.{SameUpTo}

module _ (a b : List ℕ) (n : ℕ) (sizes : length a ≡ length b) (within : n ≤ length a) (same : SameUpTo a b n) where
  abbrev pub pairs : List (ℕ × ℕ)
  pairs = zip (drop n a) (drop n b)

  abbrev pub first : ℕ
  first = position_or_len (λ (p : ℕ × ℕ). not (eqb p.0 p.1)) pairs

  pairs-length : length pairs ≡ length a - n
  pairs-length = omega (arith, length-zip (drop n a) (drop n b), length-drop n a, length-drop n b)

  up_to : (j : ℕ) → j < first → j < length pairs → get_or a (n + j) 0 ≡ get_or b (n + j) 0
  up_to j h l =
      let p = fails_before_first (λ (q : ℕ × ℕ). not (eqb q.0 q.1)) pairs j (0, 0) h in
      let x : j < length (drop n a) = omega (arith, pairs-length, length-drop n a) in
      let y : j < length (drop n b) = omega (arith, pairs-length, length-drop n b) in
      let e = eqb-true _ _ (not-false _ (rw (get_or-zip (drop n a) (drop n b) j (0, 0) x y) at p)) in
      sym (get_or-drop n a j 0) ∙ e ∙ get_or-drop n b j 0

  below : (m : ℕ) → m ≤ n + first → m ≤ length a → SameUpTo a b m
  below m f l k h =
      elim (dec_lt k n) [
        | yes d ↦ same k d
        | no d ↦
            let e : n + (k - n) ≡ k = omega (arith, d) in
            rw e at (up_to (k - n) (omega (arith, f, h, d)) (omega (arith, pairs-length, l, h, d)))
      ]

  -- what `position` finds, and where that is
  pub same_until : (r : Option ℕ) (m : ℕ) → r ≡ cond (ltb first (length pairs)) (Some first) None → m ≤ length a
      → ((k : ℕ) → r ≡ Some k → m ≡ n + k) → SameUpTo a b m
  same_until r m found l some =
      elim (dec_lt first (length pairs)) [
        | yes d ↦
            let e : r ≡ Some first = found ∙ rw (lt-ltb first (length pairs) d) in
            below m (omega (arith, some first e)) l
        | no d ↦ below m (omega (arith, pairs-length, l, d)) l
      ]
