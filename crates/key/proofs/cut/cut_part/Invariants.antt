-- `key::cut::cut_part` cuts a part byte by byte: so far, the part's first k bytes and their count, for whatever list the notes are
-- of. Assumes nothing.
use mathlib.Core.Path.{◌≡◌}
use mathlib.Core.List.{List}
use Prim.Native.Nat.{ℕ, ◌+◌, ◌≤◌}
use Rattle.rules.specs.Base.{distinct}
use Rattle.key.specs.Notes.{Notes, KeySoFar}
use Rattle.key.proofs.cut.cut_part.Given as goal

abbrev pub invariant-loop-k : goal.invariant-loop-k
invariant-loop-k l = record {
  few : l.count ≤ l.k;
  so_far : (r : List ℕ) → Notes l.notes r → KeySoFar l.bank r l.from l.initial.key
      → KeySoFar l.bank r (l.from + l.k) l.key × (distinct l.from r + l.count ≡ distinct (l.from + l.k) r);
}
