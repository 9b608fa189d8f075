-- A row of a source, for the linear decoding.
use Rattle.std.specs.Prelude.{cond, ℕ, ◌+◌, ◌*◌, ◌/◌}
use Rattle.rules.specs.Reading.{Reading, up_to}
use Rattle.rules.specs.Texdec.{Format}
use Rattle.rules.specs.Picture.{format_reads}
use Rattle.rules.specs.Linear.{linear_texel}
use Rattle.decoder.specs.Formats.{halved}

-- the byte of its row that texel x stands in, of a format of one byte or half of one
abbrev pub byte_of : Format → ℕ → ℕ
byte_of f x = cond (halved f) (x / 2) x

-- the bytes that n texels of a format take in a row: two of four bits share one
abbrev pub linear_bytes : Format → ℕ → ℕ
linear_bytes f n = cond (halved f) ((n + 1) / 2) (format_reads f * n)

-- n texels of a row, and n rows of so many texels
abbrev pub linear_part : Format → ℕ → ℕ → ℕ → Reading
linear_part f palette start n = up_to n (linear_texel f palette start)

abbrev pub linear_rows : Format → ℕ → ℕ → ℕ → ℕ → Reading
linear_rows f palette stride width n = up_to n (λ y. linear_part f palette (y * stride) width)
