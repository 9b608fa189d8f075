-- `tmem::source::pair_word` fills all lanes with two bytes, of which those past the end are 0. Assumes nothing.
use mathlib.Core.Path.{◌≡◌, refl, sym}
use mathlib.Core.Bool.{true}
use mathlib.Core.List.{List}
use Prim.Native.Nat.{ℕ, ◌≤◌}
use native.Mathlib.Omega.{arith}
use lib.ListN.{length, get_or, get_or-eq_default}
use Rattle.tmem.specs.Part.{place_of}
use Rattle.tmem.proofs.PastEnd.{pair_past}
use Rattle.tmem.proofs.Taken.{four_pairs, kept_as_one}
use Rattle.tmem.proofs.source.pair_word.Goals as goal

-- past the end
none : (s : List ℕ) (k : ℕ) → length s ≤ k → 0 ≡ get_or s k 0
none s k h = sym (get_or-eq_default s 0 h)

pub returns-in-empty : goal.returns-in-empty
returns-in-empty c =
    let s = c.args.rest.now in
    record {
      bytes_are = kept_as_one s (place_of 0 true) _ _ c.type_inv.rest (four_pairs s 0 0 (none s 0 (omega arith)) (none s 1 (omega arith)))
          c.pair.ensures.bytes;
      made_up_is = omega (arith, c.pair.ensures.made_up, pair_past (length s) 0);
    }

pub returns-in-len1 : goal.returns-in-len1
returns-in-len1 c =
    let s = c.args.rest.now in
    record {
      bytes_are = kept_as_one s (place_of 0 true) _ _ c.type_inv.rest (four_pairs s _ 0 refl (none s 1 (omega arith)))
          c.pair-in-len1.ensures.bytes;
      made_up_is = omega (arith, c.pair-in-len1.ensures.made_up, pair_past (length s) 0);
    }

pub returns-in-len2-up : goal.returns-in-len2-up
returns-in-len2-up c =
    let s = c.args.rest.now in
    record {
      bytes_are = kept_as_one s (place_of 0 true) _ _ c.type_inv.rest (four_pairs s _ _ refl refl) c.pair-in-len2-up.ensures.bytes;
      made_up_is = omega (arith, c.pair-in-len2-up.ensures.made_up, pair_past (length s) 0);
    }
