-- Parts copied into a buffer: to its front, and from a place on.
use mathlib.Core.Path.{◌≡◌}
use mathlib.Core.List.{List, ◌++◌, append_assoc}
use Prim.Native.Nat.{ℕ, ◌≤◌}
use lib.ListN.{length, take, drop, length-append}
use lib.Seq.{drop-drop, length-take-le}
use Rattle.rules.specs.Base.{over}

-- xs, which equals the part, in place of as many bytes of the buffer
module _ (part old xs : List ℕ) (n : ℕ) (e : xs ≡ part) (k : n ≡ length part) where
  pub copied : xs ++ drop n old ≡ over part old
  unfolding over
  copied = rw (e, k)

  pub copied_at : (at : ℕ) → at ≤ length old → take at old ++ (xs ++ drop n (drop at old)) ≡ over (take at old ++ part) old
  unfolding over
  copied_at at h = rw (e, k, length-append, length-take-le at old h, drop-drop, append_assoc)
