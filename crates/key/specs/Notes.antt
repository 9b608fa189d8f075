-- What a picture reads is noted, a byte for each address of the bank: 1 where it is read, else 0.
use Rattle.std.specs.Prelude.{◌≡◌, cond, List, [], ◌∷◌, ℕ, ◌<◌, eqb, get_or, set, take, replicate}
use Rattle.rules.specs.Base.{one, mem, tab}
use Rattle.rules.specs.Tile.{bank_size}

-- nothing is noted
abbrev pub no_notes : List ℕ
no_notes = replicate bank_size 0

-- the addresses of a list are noted as well
unfoldable pub noted : List ℕ → List ℕ → List ℕ
noted notes [] = notes
noted notes (a ∷ l) = noted (set notes a 1) l

-- the notes are those of a list
unfoldable pub Notes : List ℕ → List ℕ → Type 0
Notes notes l = (a : ℕ) → a < bank_size → get_or notes a 0 ≡ one (mem a l)

-- a byte with the note 1 is kept, any other is zero
abbrev pub kept_by : ℕ → ℕ → ℕ
kept_by byte note = cond (eqb note 1) byte 0

-- the bytes of a part of the bank, which are cut or compared without a look at each
abbrev pub part_size : ℕ
part_size = 64

-- the first n bytes of the key that a list cuts
unfoldable pub KeySoFar : List ℕ → List ℕ → ℕ → List ℕ → Type 0
KeySoFar bank l n key = take n key ≡ tab n (λ a. cond (mem a l) (get_or bank a 0) 0)
