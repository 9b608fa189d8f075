-- What a span reaches, and its words. It only names what the rules' lists of a row and of a lookup share.
use Rattle.std.specs.Prelude.{◌≡◌, Bool, true, false, cond, ◌&&◌, List, ℕ, ◌+◌, ◌*◌, ◌-◌, ◌/◌, ◌%◌, ◌^◌, ◌<◌, min, leb}
use Rattle.std.specs.Int.Bits.{bit_and}
use Rattle.rules.specs.Base.{odd, tab, concat}
use Rattle.rules.specs.Tile.{Tile, bank_size, palette_base, bank_words}
use Rattle.rules.specs.Texdec.{tlut}
use Rattle.rules.specs.Sampling.{is_rgba32}
use Rattle.rules.specs.Picture.{address, swap_odd}
use Rattle.rules.specs.Reach.{row_bytes}
use Rattle.reach.specs.Words.{ors, word_eight, low_words, twin}
use Rattle.reach.specs.declared.span.Span.{Span}
use Rattle.reach.specs.declared.span.Part.{Part}
use Rattle.reach.specs.declared.span.Part.TheVariants.{Whole, Lower, Both}

-- the addresses are in the lower half; each stands for one in the upper half as well
abbrev pub lower : Part → Bool
lower Whole = false
lower Lower = true
lower Both = true

abbrev pub both : Part → Bool
both Whole = false
both Lower = false
both Both = true

-- the words of the bank, or of its lower half, and their bytes
abbrev pub words_of : Bool → ℕ
words_of low = cond low low_words bank_words

abbrev pub bytes_of : Bool → ℕ
bytes_of low = cond low palette_base bank_size

-- the step from one place to the next, and how many places n bytes have
abbrev pub step_of : Bool → ℕ
step_of sparse = cond sparse 2 1

abbrev pub places_in : Bool → ℕ → ℕ
places_in sparse n = (n + (step_of sparse - 1)) / step_of sparse

-- what place i reaches
unfoldable pub reached_at : Span → ℕ → List ℕ
reached_at s i = twin (both s.part) (address (bytes_of (lower s.part)) (8 * s.first.0) s.odd (step_of s.sparse * i))

unfoldable pub reached : Span → List ℕ
reached s = concat (tab (places_in s.sparse s.bytes) (reached_at s))

-- how many words it has, the last one whole or not
abbrev pub word_count : Span → ℕ
word_count s = (s.bytes + 7) / 8

-- more words than a span can have
abbrev pub most_words : ℕ
most_words = 2 ^ 61

-- where word w is in the bank
abbrev pub word_in : Span → ℕ → ℕ
word_in s w = (s.first.0 + w) % words_of (lower s.part)

-- how many places it has, the byte of place k, and its bits
abbrev pub places_of : Span → ℕ → ℕ
places_of s w = places_in s.sparse (min (s.bytes - 8 * w) 8)

abbrev pub byte_of : Span → ℕ → ℕ
byte_of s k = swap_odd s.odd (step_of s.sparse * k)

unfoldable pub bits_in : Span → ℕ → ℕ
bits_in s w = ors (places_of s w) (λ k. 2 ^ byte_of s k)

-- all bits of those bytes in the number of the word's eight
unfoldable pub lanes_in : Span → ℕ → ℕ
lanes_in s w = ors (places_of s w) (λ k. 255 * 2 ^ (8 * byte_of s k))

-- what place k of word w reaches, and what the word does
unfoldable pub place_reached : Span → ℕ → ℕ → List ℕ
place_reached s w k = twin (both s.part) (8 * word_in s w + byte_of s k)

unfoldable pub word_reached : Span → ℕ → List ℕ
word_reached s w = concat (tab (places_of s w) (place_reached s w))

-- the eight bytes of the word that is w words on in one number, with those of the word that it stands for
abbrev pub eight_in : List ℕ → Span → ℕ → ℕ
eight_in m s w = word_eight (both s.part) m (word_in s w)

-- the words of a span below n have nothing
abbrev pub BlankWords : List ℕ → Span → ℕ → Type 0
BlankWords m s n = (w : ℕ) → w < n → eight_in m s w ≡ 0

-- the part of a tile
abbrev pub part_of : Tile → ℕ → Part
part_of t mode = cond (tlut mode) Lower (cond (is_rgba32 t.fmt t.siz) Both Whole)

-- row y of a tile as a span
abbrev pub row_span : Tile → ℕ → ℕ → Span
row_span t mode y =
    record {
      first = record { 0 = (t.tmem_addr + y * t.line) % bank_words };
      bytes = row_bytes t;
      odd = odd y;
      sparse = tlut mode && leb 2 t.siz;
      part = part_of t mode;
    }

-- what a row's word has in the bytes that the row reaches: row k from an even one on whose word is `from` words on from row 0's
abbrev pub row_lanes : List ℕ → Span → Span → ℕ → ℕ → ℕ → ℕ
row_lanes m one other line from k = bit_and (cond (odd k) (lanes_in other 0) (lanes_in one 0)) (eight_in m one (from + k * line))

-- the fours of rows below n have nothing in their words, which are so many words on from row 0's
abbrev pub BlankFours : List ℕ → Span → ℕ → ℕ → Type 0
BlankFours m one line n = (i : ℕ) → i < n → ors 4 (λ k. eight_in m one (4 * i * line + k * line)) ≡ 0
