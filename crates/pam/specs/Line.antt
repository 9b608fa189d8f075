-- What a line says: its keyword, and its value as a number and as a tuple type.
use Rattle.std.specs.Prelude.{cond, List, ℕ, min, Option, Some, None}
use Rattle.rules.specs.Base.{empty, same}
use Rattle.rules.specs.Pam.{text, solid, front, behind, trimmed, cut, comment, is_count, number}
use Rattle.pam.specs.declared.line.Keyword.{Keyword}
use Rattle.pam.specs.declared.line.Keyword.TheVariants.{Nothing, Width, Height, Depth, Maxval, Tupltype, Endhdr, Other}
use Rattle.pam.specs.declared.line.Tuple.{Tuple}
use Rattle.pam.specs.declared.line.Tuple.TheVariants.{RgbAlpha, Other as Another}
use Rattle.pam.specs.declared.line.Value.{Value}
use Rattle.pam.specs.declared.line.Line.{Line}

abbrev pub keyword_of : List ℕ → Keyword
keyword_of k =
    cond (empty k) Nothing
    (cond (same k (text "WIDTH")) Width
    (cond (same k (text "HEIGHT")) Height
    (cond (same k (text "DEPTH")) Depth
    (cond (same k (text "MAXVAL")) Maxval
    (cond (same k (text "TUPLTYPE")) Tupltype
    (cond (same k (text "ENDHDR")) Endhdr Other))))))

-- the largest number that is kept as it is; it stands for all above it
abbrev pub most : ℕ
most = 4294967295

-- the number that a value states
abbrev pub count_of : List ℕ → Option ℕ
count_of v = cond (is_count v) (Some (min (number v) most)) None

-- the tuple type that it states
abbrev pub tuple_of : List ℕ → Option Tuple
tuple_of v = cond (empty v) None (cond (same v (text "RGB_ALPHA")) (Some RgbAlpha) (Some Another))

abbrev pub value_of : List ℕ → Value
value_of v = record { count = count_of v; tuple = tuple_of v }

-- a line without the white space at its front, and one as it stands
abbrev pub words_of : List ℕ → Line
words_of l = record { keyword = keyword_of (front solid l); value = value_of (cut (trimmed (behind solid l))) }

abbrev pub line_of : List ℕ → Line
line_of l = record { keyword = cond (comment l) Nothing (words_of (trimmed l)).keyword; value = (words_of (trimmed l)).value }
