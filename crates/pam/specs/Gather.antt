-- What the lines of a header state, gathered line by line.
use Rattle.std.specs.Prelude.{Bool, true, false, cond, not, ◌&&◌, ◌||◌, List, [], ◌∷◌, ℕ, ◌+◌, Option, Some, None, eqb, ltb, length}
use Rattle.std.specs.Prelude.{take, drop}
use Rattle.rules.specs.Base.{same}
use Rattle.rules.specs.Pam.{text, lines, is_end}
use Rattle.pam.specs.Line.{line_of}
use Rattle.pam.specs.declared.line.Keyword.TheVariants.{Nothing, Width, Height, Depth, Maxval, Tupltype, Endhdr, Other}
use Rattle.pam.specs.declared.line.Tuple.{Tuple}
use Rattle.pam.specs.declared.line.Tuple.TheVariants.{RgbAlpha, Other as Another}
use Rattle.pam.specs.declared.line.Line.{Line}
use Rattle.pam.specs.declared.header.Field.{Field}
use Rattle.pam.specs.declared.header.Field.TheVariants.{Unstated, Once, Bad}
use Rattle.pam.specs.declared.header.Stated.{Stated}
use Rattle.pam.specs.declared.header.Header.{Header}

-- a field after a value more, which states `count`
abbrev pub state_after : Field → Option ℕ → Field
state_after Unstated (Some n) = Once n
state_after Unstated None = Bad
state_after (Once m) count = Bad
state_after Bad count = Bad

-- the number that was stated exactly once
abbrev pub once_of : Field → Option ℕ
once_of Unstated = None
once_of (Once n) = Some n
once_of Bad = None

-- the tuple type after one more
abbrev pub tuple_after : Option Tuple → Option Tuple → Option Tuple
tuple_after None None = Some Another
tuple_after None (Some RgbAlpha) = Some RgbAlpha
tuple_after None (Some Another) = Some Another
tuple_after (Some t) tuple = Some Another

abbrev pub absent : {A : Type 0} → Option A → Bool
absent None = true
absent (Some a) = false

-- what is stated before the first line, and after a line more
abbrev pub no_lines : Stated
no_lines =
    record {
      width = Unstated;
      height = Unstated;
      depth = Unstated;
      maxval = Unstated;
      tuple = None;
      unknown = false;
      untyped = false;
    }

abbrev pub noted : Stated → Line → Stated
noted s l =
    elim l.keyword [
      | Nothing ↦ s
      | Width ↦ record s { width = state_after s.width l.value.count }
      | Height ↦ record s { height = state_after s.height l.value.count }
      | Depth ↦ record s { depth = state_after s.depth l.value.count }
      | Maxval ↦ record s { maxval = state_after s.maxval l.value.count }
      | Tupltype ↦ record s { tuple = tuple_after s.tuple l.value.tuple; untyped = s.untyped || absent l.value.tuple }
      | Endhdr ↦ record s { unknown = true }
      | Other ↦ record s { unknown = true }
    ]

-- a header of so many bytes, of what its lines state: none where that breaks the description
abbrev pub then : {A B : Type 0} → Option A → (A → Option B) → Option B
then None f = None
then (Some a) f = f a

abbrev pub whole : ℕ → Stated → Option Header
whole size s =
    cond s.unknown None
    (then (once_of s.width) (λ w.
    then (once_of s.height) (λ h.
    then (once_of s.depth) (λ d.
    then (once_of s.maxval) (λ m.
    cond (ltb 65535 m || s.untyped) None
    (Some (record { width = w; height = h; depth = d; maxval = m; tuple = s.tuple; size = size })))))))

-- the header of lines that begin at a place
unfoldable pub read_from : ℕ → Stated → List (List ℕ) → Option Header
read_from at s [] = None
read_from at s (l ∷ ls) =
    elim (is_end l) [
      | true ↦ whole (at + length l + 1) s
      | false ↦ read_from (at + length l + 1) (noted s (line_of l)) ls
    ]

-- the header of a file
abbrev pub header_by : List ℕ → Option Header
header_by file = cond (same (take 3 file) (text "P7\n")) (read_from 3 no_lines (lines (drop 3 file))) None

abbrev pub is_rgb_alpha : Option Tuple → Bool
is_rgb_alpha None = false
is_rgb_alpha (Some RgbAlpha) = true
is_rgb_alpha (Some Another) = false

-- "another depth, maximum or tuple type, or no tuple type", of what was gathered
abbrev pub other_by : Header → Bool
other_by h = not (eqb h.depth 4 && eqb h.maxval 255 && is_rgb_alpha h.tuple)
