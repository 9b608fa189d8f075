-- `key::cut::cut` cuts the key part by part: so far, the key's first parts and their count, for whatever list the notes are of.
-- Assumes nothing.
use mathlib.Core.Path.{◌≡◌}
use mathlib.Core.List.{List}
use Prim.Native.Nat.{ℕ, ◌*◌, ◌≤◌}
use lib.ListN.{length}
use Rattle.rules.specs.Base.{distinct}
use Rattle.key.specs.Notes.{Notes, KeySoFar}
use Rattle.key.proofs.cut.cut.Given as goal

abbrev pub invariant-loop-part : goal.invariant-loop-part
invariant-loop-part l = record {
  whole : length l.key ≡ 4096;
  few : l.count ≤ 64 * l.part;
  so_far : (r : List ℕ) → Notes l.notes r → KeySoFar l.bank r (64 * l.part) l.key × (l.count ≡ distinct (64 * l.part) r);
}
