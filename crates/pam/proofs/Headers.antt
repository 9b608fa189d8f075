-- A header read line by line.
use mathlib.Core.Path.{◌≡◌, refl, ap, sym, ◌∙◌}
use mathlib.Core.Bool.{Bool, true, false, false≢true}
use mathlib.Core.List.{List, [], ◌∷◌}
use Prim.Native.Nat.{ℕ, ◌+◌, ◌-◌, ◌<◌, ◌≤◌}
use native.Mathlib.Omega.{arith}
use lib.ListN.{length, take, drop, length-drop, length-take}
use lib.Seq.{length-take-le}
use Rattle.rules.specs.Base.{same}
use Rattle.rules.specs.Pam.{text, lines, is_end}
use Rattle.pam.specs.Line.{line_of}
use Rattle.std.specs.Prelude.{Option, None}
use Rattle.pam.specs.declared.header.Header.{Header}
use Rattle.pam.specs.Gather.{noted, whole, read_from}
use Rattle.pam.specs.declared.header.Stated.{Stated}
use Rattle.pam.proofs.Texts.{same_is}

-- The line of a file that begins at `at` and ends at `end`, as `line_end` finds it.
module _ (file : List ℕ) (at end : ℕ) (s : Stated) (low : at ≤ end) (high : end < length file)
    (found : lines (drop at file) ≡ take (end - at) (drop at file) ∷ lines (drop (end + 1) file)) where
  abbrev line : List ℕ
  line = take (end - at) (drop at file)

  ends : at + length line ≡ end
  ends =
      let k : end - at ≤ length (drop at file) = omega (arith, length-drop at file) in
      omega (arith, length-take-le (end - at) (drop at file) k)

  -- it is the last of the header, or others follow
  pub read_end : is_end line ≡ true → read_from at s (lines (drop at file)) ≡ whole (end + 1) s
  unfolding read_from
  read_end e = ap (read_from at s) found ∙ rw (read_from, e) (ap (λ n. whole (n + 1) s) ends)

  pub read_next : is_end line ≡ false
      → read_from at s (lines (drop at file)) ≡ read_from (end + 1) (noted s (line_of line)) (lines (drop (end + 1) file))
  unfolding read_from
  read_next e =
      ap (read_from at s) found
      ∙ go (is_end line) e
      ∙ ap (λ n. read_from (n + 1) (noted s (line_of line)) (lines (drop (end + 1) file))) ends
    where
      rest : Option Header
      rest = read_from (at + length line + 1) (noted s (line_of line)) (lines (drop (end + 1) file))

      go : (t : Bool) → t ≡ false → elim t [ true ↦ whole (at + length line + 1) s | false ↦ rest ] ≡ rest
      go true h = absurd (false≢true (sym h))
      go false h = refl

-- no newline is left in the file
pub read_none : (at : ℕ) (s : Stated) (ls : List (List ℕ)) → ls ≡ [] → read_from at s ls ≡ None
unfolding read_from
read_none at s ls e = ap (read_from at s) e

-- a file that begins as a header does has three bytes at least
pub magic_long : (file : List ℕ) → same (take 3 file) (text "P7\n") ≡ true → 3 ≤ length file
unfolding text
magic_long file e = omega (arith, length-take 3 file, ap length (same_is (take 3 file) (text "P7\n") e))
