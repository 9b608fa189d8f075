-- Laws of bodies: their bytes, and when two are the same.
use mathlib.Core.Path.{◌≡◌, ap, sym, ◌∙◌}
use mathlib.Core.List.{List, [], ◌∷◌}
use Prim.Native.Nat.{ℕ, zero, suc, ◌+◌, ◌*◌, ◌≤◌}
use native.Mathlib.Omega.{arith}
use native.Mathlib.Nat.{zero-add, suc-add}
use lib.ListN.{length, take, drop, length-take, length-drop}
use lib.Seq.{drop-drop, ext_get_or, take-nil}
use Rattle.rules.specs.Split.{entry_size, capture_size, body_at}
use Rattle.splitter.specs.Bodies.{body_size, SameUpTo}

-- the front of a list goes, before or after it was cut
drop-take : (n m : ℕ) (l : List ℕ) → drop n (take (n + m) l) ≡ take m (drop n l)
drop-take zero m l = rw zero-add
drop-take (suc n) m [] = rw (suc-add, take-nil)
drop-take (suc n) m (x ∷ l) = rw suc-add (drop-take n m l)

module _ (entries : List ℕ) (i : ℕ) where
  -- a body is a part of the entries
  pub body_part : body_at entries i ≡ take body_size (drop (i * entry_size + capture_size) entries)
  unfolding body_at
  body_part = drop-take capture_size body_size (drop (i * entry_size) entries) ∙ rw drop-drop

  pub body_length : (i + 1) * entry_size ≤ length entries → length (body_at entries i) ≡ body_size
  body_length h = ap length body_part ∙ simp (length-take, length-drop) (omega arith)

-- two bodies with the same bytes
pub bodies_same : (a b : List ℕ) → length a ≡ body_size → length b ≡ body_size
    → SameUpTo a b body_size → a ≡ b
bodies_same a b p q h = ext_get_or 0 a b (p ∙ sym q) (λ k l. h k (rw p at l))
