-- The whole words of a row, as readings of their eight bytes.
use Rattle.std.specs.Prelude.{Bool, cond, List, [], ℕ, ◌+◌, ◌*◌, ◌/◌, ◌%◌, eqb, get_or}
use Rattle.rules.specs.Tile.{Tile}
use Rattle.rules.specs.Reading.{Reading, give, ask, and_then, up_to}
use Rattle.rules.specs.Picture.{index, entry_at}

-- the texels of a row that a word has
abbrev pub word_texels : ℕ → ℕ
word_texels siz = cond (eqb siz 0) 16 (cond (eqb siz 1) 8 4)

-- one address is read
abbrev pub ask_one : ℕ → Reading
ask_one a = ask a (λ v. give [])

-- the bytes of the bank's word `at` that are a step apart: all eight of them, or every second one
unfoldable pub word_reading : ℕ → ℕ → Reading
word_reading step at = up_to (8 / step) (λ k. ask_one (8 * at + step * k))

-- a word that wraps at the bank's end; or where both halves are read, at the palette, with the word of the upper half
unfoldable pub direct_word : Bool → ℕ → Reading
direct_word both word =
    cond both (and_then (word_reading 1 (word % 256)) (word_reading 1 (word % 256 + 256))) (word_reading 1 (word % 512))

-- so many words from one on
unfoldable pub direct_words : Bool → ℕ → ℕ → Reading
direct_words both first words = up_to words (λ w. direct_word both (first + w))

-- the entries that an index byte stands for, in an even column and in an odd one
unfoldable pub entries_of : Tile → ℕ → ℕ → Reading
entries_of t lane byte =
    let even : ℕ = entry_at (index t 0 byte) lane in
    let odd : ℕ = entry_at (index t 1 byte) lane in
    ask even (λ v. ask (even + 1) (λ v. ask odd (λ v. ask_one (odd + 1))))

-- a word of index bytes, which are a step apart: their entries, and the bytes themselves
unfoldable pub index_word : ℕ → Tile → ℕ → List ℕ → ℕ → Reading
index_word step t lane bank at =
    and_then (up_to (8 / step) (λ k. entries_of t lane (get_or bank (8 * at + step * k) 0))) (word_reading step at)

-- so many of them from one on, which wrap at the palette
unfoldable pub index_words : ℕ → Tile → ℕ → List ℕ → ℕ → ℕ → Reading
index_words step t lane bank first words = up_to words (λ w. index_word step t lane bank ((first + w) % 256))
