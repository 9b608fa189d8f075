-- The declared formats and parts as the rules have them, and what the bytes of a texel give by its format.
use Rattle.std.specs.Prelude.{Bool, true, false, List, [], ◌∷◌, ℕ, ◌+◌, ◌*◌}
use Rattle.rules.specs.Texdec as rules
use Rattle.rules.specs.Texdec.{rgba16, rgba32, ci4, ci8, ci16, ia4, ia8, ia16, i4, i8, unknown}
use Rattle.rules.specs.Texdec.{entry_of, rgba16_texel, ia16_texel, ia8_texel, ia4_texel, i4_texel, same4, nibble}
use Rattle.decoder.specs.declared.format.Format.{Format}
use Rattle.decoder.specs.declared.format.Format.TheVariants.{Rgba16, Rgba32, Ci4, Ci8, Ci16, Ia4, Ia8, Ia16, I4, I8}
use Rattle.decoder.specs.declared.part.Part.{Part}
use Rattle.decoder.specs.declared.part.Part.TheVariants.{WholeByte, Nibble, HighNibble}

-- the same, without the unknown one
abbrev pub rule_of : Format → rules.Format
rule_of Rgba16 = rgba16
rule_of Rgba32 = rgba32
rule_of Ci4 = ci4
rule_of Ci8 = ci8
rule_of Ci16 = ci16
rule_of Ia4 = ia4
rule_of Ia8 = ia8
rule_of Ia16 = ia16
rule_of I4 = i4
rule_of I8 = i8

-- the part's number
abbrev pub part_number : Part → ℕ
part_number WholeByte = 32
part_number Nibble = 33
part_number HighNibble = 34

-- two texels of four bits share a byte
abbrev pub halved : rules.Format → Bool
halved rgba16 = false
halved rgba32 = false
halved ci4 = true
halved ci8 = false
halved ci16 = false
halved ia4 = true
halved ia8 = false
halved ia16 = false
halved i4 = true
halved i8 = false
halved unknown = false

-- what the byte of a texel gives, of a format of one: an index or I8 is the byte itself
abbrev pub of_byte : rules.Format → ℕ → ℕ → ℕ → List ℕ
of_byte rgba16 palette x v = same4 v
of_byte rgba32 palette x v = same4 v
of_byte ci4 palette x v = same4 (palette * 16 + nibble x v)
of_byte ci8 palette x v = same4 v
of_byte ci16 palette x v = same4 v
of_byte ia4 palette x v = ia4_texel (nibble x v)
of_byte ia8 palette x v = ia8_texel v
of_byte ia16 palette x v = same4 v
of_byte i4 palette x v = i4_texel (nibble x v)
of_byte i8 palette x v = same4 v
of_byte unknown palette x v = same4 v

-- what the two bytes give, of a format of two: an index is the bytes themselves, twice
abbrev pub of_pair : rules.Format → ℕ → ℕ → List ℕ
of_pair rgba16 hi lo = rgba16_texel (entry_of hi lo)
of_pair rgba32 hi lo = hi ∷ lo ∷ hi ∷ lo ∷ []
of_pair ci4 hi lo = hi ∷ lo ∷ hi ∷ lo ∷ []
of_pair ci8 hi lo = hi ∷ lo ∷ hi ∷ lo ∷ []
of_pair ci16 hi lo = hi ∷ lo ∷ hi ∷ lo ∷ []
of_pair ia4 hi lo = hi ∷ lo ∷ hi ∷ lo ∷ []
of_pair ia8 hi lo = hi ∷ lo ∷ hi ∷ lo ∷ []
of_pair ia16 hi lo = ia16_texel (entry_of hi lo)
of_pair i4 hi lo = hi ∷ lo ∷ hi ∷ lo ∷ []
of_pair i8 hi lo = hi ∷ lo ∷ hi ∷ lo ∷ []
of_pair unknown hi lo = hi ∷ lo ∷ hi ∷ lo ∷ []
