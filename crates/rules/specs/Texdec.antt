-- Pairs of format and size, and how their bytes become four channels: "Rules for pictures (000, 001)".
use Rattle.std.specs.Prelude.{Bool, true, false, cond, ◌&&◌, ◌||◌, List, [], ◌∷◌, ℕ, ◌+◌, ◌*◌, ◌/◌, ◌%◌, eqb, leb, get_or}
use Rattle.std.specs.Int.Bits.{bit_and, bit_or}
use Rattle.rules.specs.Base.{any, tab}

-- a lookup table is in use
abbrev pub tlut : ℕ → Bool
tlut mode = leb 2 mode

pub record Pair : Type 0 where
  pub fmt : ℕ
  pub siz : ℕ

infix 20 ◌by◌
abbrev pub ◌by◌ : ℕ → ℕ → Pair
fmt by siz = record { fmt = fmt; siz = siz }

-- "modes 0 and 1, pairs (0,2) (0,3) (2,0..3) (3,0..2) (4,0) (4,1)"
abbrev pub direct_pairs : List Pair
direct_pairs =
    (0 by 2) ∷ (0 by 3)
    ∷ (2 by 0) ∷ (2 by 1) ∷ (2 by 2) ∷ (2 by 3)
    ∷ (3 by 0) ∷ (3 by 1) ∷ (3 by 2)
    ∷ (4 by 0) ∷ (4 by 1) ∷ []

unfoldable pub accepted_direct : ℕ → ℕ → Bool
accepted_direct fmt siz = any (λ p. eqb fmt p.fmt && eqb siz p.siz) direct_pairs

-- "Accepted: modes 2 and 3, any pair"; as the Rust has it, a pair of the ranges
unfoldable pub accepted : ℕ → ℕ → ℕ → Bool
accepted mode fmt siz = (tlut mode && leb fmt 7 && leb siz 3) || accepted_direct fmt siz

-- what the texel step makes of a pair without a lookup table
pub data Format : Type 0 where
  rgba16 rgba32 ci4 ci8 ci16 ia4 ia8 ia16 i4 i8 unknown : Format

-- a row of four sizes for each of the formats 0 to 4
abbrev pub formats : List Format
formats =
    unknown ∷ unknown ∷ rgba16 ∷ rgba32
    ∷ unknown ∷ unknown ∷ unknown ∷ unknown
    ∷ ci4 ∷ ci8 ∷ ci16 ∷ ci16
    ∷ ia4 ∷ ia8 ∷ ia16 ∷ unknown
    ∷ i4 ∷ i8 ∷ []

unfoldable pub format_of : ℕ → ℕ → Format
format_of fmt siz = cond (leb siz 3) (get_or formats (4 * fmt + siz) unknown) unknown

abbrev pub known : Format → Bool
known rgba16 = true
known rgba32 = true
known ci4 = true
known ci8 = true
known ci16 = true
known ia4 = true
known ia8 = true
known ia16 = true
known i4 = true
known i8 = true
known unknown = false

-- the texel step knows the pair; that it knows each accepted one is `accepted-known` of proofs/Formats
abbrev pub step_knows : ℕ → ℕ → ℕ → Bool
step_knows mode fmt siz = tlut mode || known (format_of fmt siz)

-- "Five bits widen as (c<<3)|(c>>2)."
abbrev pub wide5 : ℕ → ℕ
wide5 c = bit_or (c * 8) (c / 4)

-- a nibble repeated
abbrev pub wide4 : ℕ → ℕ
wide4 c = c * 16 + c

-- "the 1-bit alpha is 0 or 255"
abbrev pub alpha1 : ℕ → ℕ
alpha1 b = cond (eqb b 1) 255 0

-- "IA intensity fills three channels"
abbrev pub grey : ℕ → ℕ → List ℕ
grey i a = i ∷ i ∷ i ∷ a ∷ []

-- one number in all channels
abbrev pub same4 : ℕ → List ℕ
same4 v = grey v v

-- two bytes, hi and lo, as one entry
abbrev pub entry_of : ℕ → ℕ → ℕ
entry_of hi lo = hi * 256 + lo

-- "read as 5/5/5/1 (mode 2)"
abbrev pub rgba16_texel : ℕ → List ℕ
rgba16_texel v = wide5 (v / 2048 % 32) ∷ wide5 (v / 64 % 32) ∷ wide5 (v / 2 % 32) ∷ alpha1 (v % 2) ∷ []

-- "or intensity, alpha (mode 3)"
abbrev pub ia16_texel : ℕ → List ℕ
ia16_texel v = grey (v / 256 % 256) (v % 256)

-- "IA8: high nibble intensity, low nibble alpha, each repeated."
abbrev pub ia8_texel : ℕ → List ℕ
ia8_texel b = grey (wide4 (b / 16)) (wide4 (b % 16))

-- "IA4: i = nibble and 14, (i<<4)|(i<<1)|(i>>2), alpha 0 or 255."
abbrev pub ia4_level : ℕ → ℕ
ia4_level i = bit_or (bit_or (i * 16) (i * 2)) (i / 4)

abbrev pub ia4_texel : ℕ → List ℕ
ia4_texel n = grey (ia4_level (bit_and n 14)) (alpha1 (n % 2))

-- "I4: the nibble repeated, in all."
abbrev pub i4_texel : ℕ → List ℕ
i4_texel n = same4 (wide4 n)

-- "high nibble for even x"
abbrev pub nibble : ℕ → ℕ → ℕ
nibble x b = cond (eqb (x % 2) 0) (b / 16) (b % 16)

-- The part of its byte that an index is, by numbers that no pair has (4 times format, and size, is below 32): the whole of it, the
-- nibble of its column, or the high nibble.
abbrev pub whole_byte : ℕ
whole_byte = 32

abbrev pub column_nibble : ℕ
column_nibble = 33

abbrev pub high_nibble : ℕ
high_nibble = 34

-- "index is the byte, or for siz 0 .. nibble (high nibble for even x or fmt 1)"
abbrev pub index_part : ℕ → ℕ → ℕ
index_part fmt siz = cond (eqb siz 0) (cond (eqb fmt 1) high_nibble column_nibble) whole_byte

-- "or for siz 0 palette·16 + nibble"
abbrev pub part_index : ℕ → ℕ → ℕ → ℕ → ℕ
part_index part palette x v = cond (eqb part whole_byte) v (palette * 16 + nibble (cond (eqb part column_nibble) x 0) v)

-- a ready texel is one number of 32 bits: its four channels, the lowest first, and the number of four channels
abbrev pub channels : ℕ → List ℕ
channels v = (v % 256) ∷ (v / 256 % 256) ∷ (v / 65536 % 256) ∷ (v / 16777216 % 256) ∷ []

abbrev pub ready : List ℕ → ℕ
ready l = get_or l 3 0 * 16777216 + get_or l 2 0 * 65536 + get_or l 1 0 * 256 + get_or l 0 0

-- "IA8 has a table of 256 ready four-byte texels"
unfoldable pub ia8_table : List ℕ
ia8_table = tab 256 (λ b. ready (ia8_texel b))
