-- Document 02's item 3: pictures as files in the Netpbm PAM format. "The writer has one fixed header spelling; the reader takes the header
-- lines in any order, comments too, as the public PAM description allows."
use Rattle.std.specs.Prelude.{Bool, true, false, cond, not, ◌&&◌, ◌||◌, List, [], ◌∷◌, ◌++◌, ℕ, ◌+◌, ◌-◌, ◌*◌, eqb, ltb, length, take}
use Rattle.std.specs.Prelude.{drop}
use Prim.Native.Char.{code}
use Prim.Native.String.{String, [] as ε, ◌∷◌ as ◌▹◌}
use Rattle.rules.specs.Base.{any, all, empty, same, over}
use Rattle.rules.specs.Tile.{sides_outside}
use Rattle.rules.specs.Refusal.{Test, ◌if◌, Outcome, call}
use Rattle.rules.specs.Calls.{short_picture}
use Rattle.rules.specs.Lister.{decimal}

-- the bytes of a text: the codes of its characters, which are all below 256 here
unfoldable pub text : String → List ℕ
text ε = []
text (c ▹ s) = code c ∷ text s

-- Lines. A line is the bytes before the next newline (10); bytes with no newline after them are no line.

-- a byte before the first of some lines
abbrev pub onto : ℕ → List (List ℕ) → List (List ℕ)
onto b [] = []
onto b (l ∷ ls) = (b ∷ l) ∷ ls

unfoldable pub lines : List ℕ → List (List ℕ)
lines [] = []
lines (b ∷ s) = elim (eqb b 10) [ true ↦ [] ∷ lines s | false ↦ onto b (lines s) ]

-- lines as they stand in a file
unfoldable pub ended : List (List ℕ) → List ℕ
ended [] = []
ended (l ∷ ls) = l ++ (10 ∷ ended ls)

-- Writing. "a plain picture with width, height, depth 4, maximum 255 and tuple type RGB_ALPHA"

abbrev pub pam_lines : ℕ → ℕ → List (List ℕ)
pam_lines w h =
    text "P7"
    ∷ (text "WIDTH " ++ decimal w)
    ∷ (text "HEIGHT " ++ decimal h)
    ∷ text "DEPTH 4"
    ∷ text "MAXVAL 255"
    ∷ text "TUPLTYPE RGB_ALPHA"
    ∷ text "ENDHDR"
    ∷ []

unfoldable pub pam_header : ℕ → ℕ → List ℕ
pam_header w h = ended (pam_lines w h)

-- the bytes of a picture's texels
abbrev pub texel_bytes : ℕ → ℕ → ℕ
texel_bytes w h = 4 * (w * h)

unfoldable pub pam_file : ℕ → ℕ → List ℕ → List ℕ
pam_file w h picture = pam_header w h ++ take (texel_bytes w h) picture

abbrev pub pam_size : ℕ → ℕ → ℕ
pam_size w h = length (pam_header w h) + texel_bytes w h

-- "Refusals, on writing and in this order: 2, 12 for a zero side, 6 for a picture or file buffer too short."
abbrev pub pam_write_tests : ℕ → ℕ → List ℕ → List ℕ → List Test
pam_write_tests w h picture file =
    (2 if sides_outside w h)
    ∷ (12 if (eqb w 0 || eqb h 0))
    ∷ short_picture (w * h) picture
    ∷ (6 if ltb (length file) (pam_size w h))
    ∷ []

unfoldable pub pam_write_call : ℕ → ℕ → List ℕ → List ℕ → Outcome
pam_write_call w h picture file =
    call (pam_write_tests w h picture file) (pam_size w h ∷ []) (over (pam_file w h picture) file ∷ []) (file ∷ [])

-- Reading: what a line says. White space is a space, and tab to carriage return (9 to 13).

abbrev pub white : ℕ → Bool
white b = eqb b 32 || (ltb 8 b && ltb b 14)

abbrev pub solid : ℕ → Bool
solid b = not (white b)

-- the longest front of which all bytes are of a kind, and what follows it
unfoldable pub front : (ℕ → Bool) → List ℕ → List ℕ
front f [] = []
front f (b ∷ l) = elim (f b) [ true ↦ b ∷ front f l | false ↦ [] ]

unfoldable pub behind : (ℕ → Bool) → List ℕ → List ℕ
behind f [] = []
behind f (b ∷ l) = elim (f b) [ true ↦ behind f l | false ↦ b ∷ l ]

-- without the white space at its front
abbrev pub trimmed : List ℕ → List ℕ
trimmed l = behind white l

-- a byte before what is left: white space before nothing goes too
abbrev pub before : ℕ → List ℕ → List ℕ
before b left = cond (white b && empty left) [] (b ∷ left)

-- without the white space at its end
unfoldable pub cut : List ℕ → List ℕ
cut [] = []
cut (b ∷ l) = before b (cut l)

-- a line's first token, and the rest of the line without white space at either end
abbrev pub keyword : List ℕ → List ℕ
keyword l = front solid (trimmed l)

abbrev pub value : List ℕ → List ℕ
value l = cut (trimmed (behind solid (trimmed l)))

-- a line that begins with # (35) is a comment
abbrev pub comment : List ℕ → Bool
comment [] = false
comment (b ∷ l) = eqb b 35

-- a line's keyword is this one
abbrev pub says : String → List ℕ → Bool
says k l = same (keyword l) (text k)

abbrev pub is_end : List ℕ → Bool
is_end l = says "ENDHDR" l

-- A comment says nothing, and neither does a line without a token. Every other line before ENDHDR has to begin with one of these keywords.
abbrev pub unknown_line : List ℕ → Bool
unknown_line l =
    not
    (comment l
    || empty (keyword l)
    || says "WIDTH" l
    || says "HEIGHT" l
    || says "DEPTH" l
    || says "MAXVAL" l
    || says "TUPLTYPE" l)

-- The lines before the first ENDHDR line, and how many bytes they and that line take.
unfoldable pub fields : List (List ℕ) → List (List ℕ)
fields [] = []
fields (l ∷ ls) = elim (is_end l) [ true ↦ [] | false ↦ l ∷ fields ls ]

unfoldable pub lines_size : List (List ℕ) → ℕ
lines_size [] = 0
lines_size (l ∷ ls) = elim (is_end l) [ true ↦ length l + 1 | false ↦ length l + 1 + lines_size ls ]

-- the values that lines state for a keyword, in order
unfoldable pub values : String → List (List ℕ) → List (List ℕ)
values k [] = []
values k (l ∷ ls) = elim (says k l) [ true ↦ value l ∷ values k ls | false ↦ values k ls ]

-- Numbers are decimal, of any length.
abbrev pub digit : ℕ → Bool
digit b = ltb 47 b && ltb b 58

unfoldable pub number_from : ℕ → List ℕ → ℕ
number_from n [] = n
number_from n (d ∷ l) = number_from (10 * n + (d - 48)) l

abbrev pub number : List ℕ → ℕ
number v = number_from 0 v

-- one digit at least, digits alone, and not the number 0
abbrev pub is_count : List ℕ → Bool
is_count v = not (empty v) && all digit v && not (eqb (number v) 0)

-- stated exactly once, and so
abbrev pub once : List (List ℕ) → Bool
once [] = false
once (v ∷ []) = is_count v
once (v ∷ w ∷ vs) = false

abbrev pub stated : List (List ℕ) → ℕ
stated [] = 0
stated (v ∷ vs) = number v

-- several tuple types are one, with a space between each two
unfoldable pub joined : List (List ℕ) → List ℕ
joined [] = []
joined (t ∷ []) = t
joined (t ∷ u ∷ ts) = t ++ (32 ∷ joined (u ∷ ts))

-- A header: whether it "breaks the description, a zero side included", what it states, and how many bytes it takes.
pub record Header : Type 0 where
  pub broken : Bool
  pub width : ℕ
  pub height : ℕ
  pub depth : ℕ
  pub maxval : ℕ
  pub tuple : List ℕ
  pub size : ℕ

-- the header of the lines after the first, which is `P7` alone where `magic` says so
unfoldable pub header_of : Bool → List (List ℕ) → Header
header_of magic ls =
    let fs : List (List ℕ) = fields ls in
    let widths : List (List ℕ) = values "WIDTH" fs in
    let heights : List (List ℕ) = values "HEIGHT" fs in
    let depths : List (List ℕ) = values "DEPTH" fs in
    let maxvals : List (List ℕ) = values "MAXVAL" fs in
    let types : List (List ℕ) = values "TUPLTYPE" fs in
    record {
      broken =
          not magic
          || not (any is_end ls)
          || any unknown_line fs
          || not (once widths)
          || not (once heights)
          || not (once depths)
          || not (once maxvals)
          || ltb 65535 (stated maxvals)
          || any empty types;
      width = stated widths;
      height = stated heights;
      depth = stated depths;
      maxval = stated maxvals;
      tuple = joined types;
      size = 3 + lines_size ls;
    }

-- the header of a file: its first three bytes are `P7` and a newline
unfoldable pub pam_head : List ℕ → Header
pam_head file = header_of (same (take 3 file) (text "P7\n")) (lines (drop 3 file))

-- "another depth, maximum or tuple type, or no tuple type"
abbrev pub other_tuples : Header → Bool
other_tuples h = not (eqb h.depth 4 && eqb h.maxval 255 && same h.tuple (text "RGB_ALPHA"))

-- "On reading: 13 for a header that breaks the description ..; 14 for another depth, maximum or tuple type, or no tuple type; 2 for a side
-- above the limit; 15 for fewer texel bytes than the header calls for; 6 for a picture buffer too short."
abbrev pub pam_read_tests : Header → List ℕ → List ℕ → List Test
pam_read_tests h file picture =
    (13 if h.broken)
    ∷ (14 if other_tuples h)
    ∷ (2 if sides_outside h.width h.height)
    ∷ (15 if ltb (length file) (h.size + texel_bytes h.width h.height))
    ∷ short_picture (h.width * h.height) picture
    ∷ []

-- the texels are the bytes after the header; "Bytes after the texels are not read."
abbrev pub pam_read_of : Header → List ℕ → List ℕ → Outcome
pam_read_of h file picture =
    call (pam_read_tests h file picture)
    (h.width ∷ h.height ∷ [])
    (over (take (texel_bytes h.width h.height) (drop h.size file)) picture ∷ [])
    (picture ∷ [])

unfoldable pub pam_read_call : List ℕ → List ℕ → Outcome
pam_read_call file picture = pam_read_of (pam_head file) file picture
