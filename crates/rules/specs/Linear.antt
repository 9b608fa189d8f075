-- The linear decoders of texdec.rs and combiner.rs: a picture read straight from a source (document 02's item 11).
use Rattle.std.specs.Prelude.{Bool, not, ◌&&◌, [], ◌∷◌, ℕ, ◌+◌, ◌*◌, ◌/◌, eqb}
use Rattle.rules.specs.Reading.{Reading, give, ask, up_to}
use Rattle.rules.specs.Tile.{Tile}
use Rattle.rules.specs.Texdec.{Format, rgba16, rgba32, ci4, ci8, ci16, ia4, ia8, ia16, i4, i8, unknown, format_of, accepted}
use Rattle.rules.specs.Texdec.{entry_of, rgba16_texel, ia16_texel, ia8_texel, ia4_texel, i4_texel, same4, nibble}

-- "an accepted pair of mode 0 other than (2,3)"
abbrev pub linear_pair : ℕ → ℕ → Bool
linear_pair fmt siz = accepted 0 fmt siz && not (eqb fmt 2 && eqb siz 3)

-- Texel x of a row that starts at place p of a source, of a format and a palette. It is a reading of the source, so "bytes past the
-- source's end being zero" is the reading's own rule. "The linear reader must include RGBA32, which the Rust's linear decoder lacks."
-- An index is shown as mode 0 shows it.
unfoldable pub linear_texel : Format → ℕ → ℕ → ℕ → Reading
linear_texel f palette p x =
    elim f [
      | rgba16 ↦ ask (p + 2 * x) (λ hi. ask (p + 2 * x + 1) (λ lo. give (rgba16_texel (entry_of hi lo))))
      | rgba32 ↦
          ask (p + 4 * x) (λ r. ask (p + 4 * x + 1) (λ g.
          ask (p + 4 * x + 2) (λ b. ask (p + 4 * x + 3) (λ a. give (r ∷ g ∷ b ∷ a ∷ [])))))
      | ci4 ↦ ask (p + x / 2) (λ v. give (same4 (palette * 16 + nibble x v)))
      | ci8 ↦ ask (p + x) (λ v. give (same4 v))
      | ci16 ↦ ask (p + 2 * x) (λ hi. ask (p + 2 * x + 1) (λ lo. give (hi ∷ lo ∷ hi ∷ lo ∷ [])))
      | ia4 ↦ ask (p + x / 2) (λ v. give (ia4_texel (nibble x v)))
      | ia8 ↦ ask (p + x) (λ v. give (ia8_texel v))
      | ia16 ↦ ask (p + 2 * x) (λ hi. ask (p + 2 * x + 1) (λ lo. give (ia16_texel (entry_of hi lo))))
      | i4 ↦ ask (p + x / 2) (λ v. give (i4_texel (nibble x v)))
      | i8 ↦ ask (p + x) (λ v. give (same4 v))
      | unknown ↦ give []
    ]

-- "the source row at y times the stride"
unfoldable pub linear_row : Tile → ℕ → ℕ → Reading
linear_row t stride y = up_to t.width (linear_texel (format_of t.fmt t.siz) t.palette (y * stride))

unfoldable pub linear : Tile → ℕ → Reading
linear t stride = up_to t.height (linear_row t stride)
