-- The longest header, and the tests of reading by what was gathered of one that does not break the description.
use Rattle.std.specs.Prelude.{List, [], ◌∷◌, ℕ, ◌+◌, ◌-◌, ◌*◌, ltb}
use Rattle.rules.specs.Tile.{sides_outside}
use Rattle.rules.specs.Refusal.{Test, ◌if◌}
use Rattle.rules.specs.Pam.{texel_bytes}
use Rattle.pam.specs.Gather.{other_by}
use Rattle.pam.specs.declared.header.Header.{Header}

-- the bytes of the longest header
abbrev pub header_most : ℕ
header_most = 63 + 2 * 10

abbrev pub read_tests : Header → ℕ → ℕ → List Test
read_tests h file picture =
    (14 if other_by h)
    ∷ (2 if sides_outside h.width h.height)
    ∷ (15 if ltb (file - h.size) (texel_bytes h.width h.height))
    ∷ (6 if ltb picture (texel_bytes h.width h.height))
    ∷ []
