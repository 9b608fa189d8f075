-- Several bits of one byte of a map, or of the marks of a word of the written record. It only names what the rules say address by
-- address.
use Rattle.std.specs.Prelude.{Bool, cond, not, ◌||◌, List, [], ◌∷◌, ℕ, zero, suc, ◌+◌, ◌*◌, ◌/◌, ◌^◌, eqb, get_or, set}
use Rattle.std.specs.Int.Bits.{bit_and, bit_or}
use Rattle.rules.specs.Base.{is_written}
use Rattle.rules.specs.Tile.{palette_base}

-- f 0, f 1, .. f (n - 1) in one number
unfoldable pub ors : ℕ → (ℕ → ℕ) → ℕ
ors zero f = 0
ors (suc n) f = bit_or (ors n f) (f n)

-- the map with some bits of byte w set as well
unfoldable pub joined : List ℕ → ℕ → ℕ → List ℕ
joined map w bits = set map w (bit_or (get_or map w 0) bits)

-- bit k of a word of the written record, where the address is written
abbrev pub mark_bit : List ℕ → ℕ → ℕ → ℕ
mark_bit map w k = cond (is_written map (8 * w + k)) (2 ^ k) 0

-- the marks of word w: a bit for each of its addresses that is written
unfoldable pub word_marks : List ℕ → ℕ → ℕ
word_marks map w = ors 8 (mark_bit map w)

-- eight bytes as one number, the first lowest; and the sixteen of a word's numbers in one
unfoldable pub eight_bytes : List ℕ → ℕ → ℕ
eight_bytes bytes from = ors 8 (λ k. get_or bytes (from + k) 0 * 2 ^ (8 * k))

unfoldable pub word_bytes : List ℕ → ℕ → ℕ
word_bytes map w = bit_or (eight_bytes map (16 * w)) (eight_bytes map (16 * w + 8))

-- one of the bits is set in them
unfoldable pub meets : List ℕ → ℕ → ℕ → Bool
meets map w bits = not (eqb (bit_and (word_marks map w) bits) 0)

-- the words of the lower half, which ends where the palette starts
abbrev pub low_words : ℕ
low_words = palette_base / 8

-- an address, and the one that it stands for in the upper half
unfoldable pub twin : Bool → ℕ → List ℕ
twin twice a = cond twice (a ∷ (a + palette_base) ∷ []) (a ∷ [])

-- a word's bits, and those of the word that it stands for
unfoldable pub word_joined : Bool → List ℕ → ℕ → ℕ → List ℕ
word_joined twice map w bits = cond twice (joined (joined map w bits) (w + low_words) bits) (joined map w bits)

unfoldable pub word_meets : Bool → List ℕ → ℕ → ℕ → Bool
word_meets twice map w bits = cond twice (meets map w bits || meets map (w + low_words) bits) (meets map w bits)

-- the eight bytes of a word in one number, with those of the word that it stands for
unfoldable pub word_eight : Bool → List ℕ → ℕ → ℕ
word_eight twice m w =
    cond twice (bit_or (eight_bytes m (8 * w)) (eight_bytes m (8 * w + palette_base))) (eight_bytes m (8 * w))
