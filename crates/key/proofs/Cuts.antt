-- The key cut byte by byte: one byte more of the key, and of the count.
use mathlib.Core.Path.{◌≡◌, refl, ap, ◌∙◌}
use mathlib.Core.Bool.{Bool, true, false, cond}
use mathlib.Core.List.{List}
use Prim.Native.Nat.{ℕ, ◌+◌, ◌<◌}
use native.Mathlib.Omega.{arith}
use native.Mathlib.Numerals.{add-one}
use lib.ListN.{length, get_or, set}
use lib.Seq.{take-suc-set}
use Rattle.rules.specs.Base.{one, mem, distinct}
use Rattle.key.specs.Notes.{Notes, kept_by, KeySoFar}
use Rattle.rules.proofs.Tables.{tab-more}

-- by the note of whether a byte is read, it is kept where it is
pub kept_by_lem : (v : ℕ) (t : Bool) → kept_by v (one t) ≡ cond t v 0
kept_by_lem v true = refl
kept_by_lem v false = refl

pub key_more : (bank seen key l : List ℕ) (a : ℕ) → a < 4096 → a < length key → Notes seen l → KeySoFar bank l a key
    → KeySoFar bank l (a + 1) (set key a (kept_by (get_or bank a 0) (get_or seen a 0)))
unfolding Notes KeySoFar
key_more bank seen key l a h k n e =
    let byte : kept_by (get_or bank a 0) (get_or seen a 0) ≡ cond (mem a l) (get_or bank a 0) 0 =
    ap (kept_by (get_or bank a 0)) (n a h) ∙ kept_by_lem (get_or bank a 0) (mem a l) in
    rw (tab-more, add-one) (take-suc-set key a _ k ∙ rw (e, byte))

pub count_more : (seen l : List ℕ) (a count n : ℕ) → a < 4096 → Notes seen l → n + count ≡ distinct a l
    → n + (count + get_or seen a 0) ≡ distinct (a + 1) l
unfolding Notes distinct
count_more seen l a count n h s e = rw (add-one, s a h) (omega arith)
