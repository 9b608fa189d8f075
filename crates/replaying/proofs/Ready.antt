-- The records that are ready, counted from the first on.
use mathlib.Core.Path.{◌≡◌, refl, ◌∙◌}
use mathlib.Core.Bool.{Bool, true, false, cond}
use mathlib.Core.List.{List, [], ◌∷◌}
use Prim.Native.Nat.{ℕ, zero, suc, ◌+◌, ◌-◌, ◌<◌}
use native.Mathlib.Omega.{arith}
use native.Mathlib.Nat.{zero-add}
use native.Mathlib.Numerals.{add-one}
use lib.ListN.{get_or}
use Rattle.rules.specs.Base.{tab, tab_from}
use Rattle.rules.specs.Replay.{Piece, at_hand, ready}
use Rattle.rules.proofs.Tables.{get_or-tab}

module _ (p : Piece) (f : ℕ → List ℕ) where
  -- record i, and how many of those after it are ready
  next : (i n : ℕ) → i < n
      → ready p (tab_from i (n - i) f) ≡ cond (at_hand p (f i)) (suc (ready p (tab_from (i + 1) (n - (i + 1)) f))) 0
  unfolding ready tab_from
  next i n h =
      let e : n - i ≡ suc (n - (i + 1)) = omega arith in
      rw (e, add-one)

  -- the first i of n records are ready
  abbrev pub Ahead : ℕ → ℕ → Type 0
  Ahead n i = ready p (tab n f) ≡ i + ready p (tab_from i (n - i) f)

  pub ahead_start : (n : ℕ) → Ahead n 0
  unfolding tab
  ahead_start n = let e : n - 0 ≡ n = omega arith in rw (e, zero-add)

  pub ahead_stop : (n i : ℕ) → i < n → Ahead n i → at_hand p (f i) ≡ false → i ≡ ready p (tab n f)
  ahead_stop n i h a e =
      let none : ready p (tab_from i (n - i) f) ≡ 0 = next i n h ∙ rw e in
      omega arith

  pub ahead_more : (n i : ℕ) → i < n → Ahead n i → at_hand p (f i) ≡ true → Ahead n (i + 1)
  ahead_more n i h a e =
      let one : ready p (tab_from i (n - i) f) ≡ suc (ready p (tab_from (i + 1) (n - (i + 1)) f)) = next i n h ∙ rw e in
      omega arith

  pub ahead_end : (n : ℕ) → Ahead n n → n ≡ ready p (tab n f)
  unfolding ready tab_from
  ahead_end n a =
      let e : n - n ≡ 0 = omega arith in
      let none : ready p (tab_from n 0 f) ≡ 0 = refl in
      let b : ready p (tab n f) ≡ n + ready p (tab_from n 0 f) = rw e at a in
      omega arith

-- a ready record's part is at hand
ready_ahead : (p : Piece) (l : List (List ℕ)) (i : ℕ) → i < ready p l → at_hand p (get_or l i []) ≡ true
unfolding ready
ready_ahead p [] i h = absurd (omega arith)
ready_ahead p (r ∷ l) i h = go (at_hand p r) refl i h (ready_ahead p l)
  where
    go : (b : Bool) → at_hand p r ≡ b → (i : ℕ) → i < cond b (suc (ready p l)) 0 →
        ((j : ℕ) → j < ready p l → at_hand p (get_or l j []) ≡ true)
        → at_hand p (get_or (r ∷ l) i []) ≡ true
    go false e i k ih = absurd (omega arith)
    go true e zero k ih = e
    go true e (suc i) k ih = ih i (omega arith)

pub ready-at_hand : (p : Piece) (f : ℕ → List ℕ) (n i : ℕ) → i < n → i < ready p (tab n f) → at_hand p (f i) ≡ true
ready-at_hand p f n i h k = rw (get_or-tab n f i [] h) at (ready_ahead p (tab n f) i k)
