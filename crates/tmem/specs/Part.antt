-- Names for what the parts of a load take, do and count, and the declared record of a load's fields as the rules have it. They
-- give nothing a meaning.
use Rattle.std.specs.Prelude.{◌≡◌, Bool, cond, ◌||◌, List, [], ◌∷◌, ◌++◌, ℕ, ◌+◌, ◌-◌, ◌%◌, ◌<◌, ◌≤◌, eqb, length, get_or}
use Rattle.std.specs.Int.{w64, to_le_bytes}
use denote.Ref.{at_last}
use Rattle.rules.specs.Base.{tab}
use Rattle.rules.specs.Load.{Store, store, LoadTile, stored, written, reasoned, made_up, word_made_up}
use Rattle.tmem.specs.declared.memory.Label.{Label}
use Rattle.tmem.specs.declared.memory.Memory.{Memory}
use Rattle.tmem.specs.declared.place.LoadTile.{LoadTile as Declared}
use Rattle.tmem.specs.declared.source.SourceWord.{SourceWord}
use Rattle.tmem.specs.declared.tally.Tally.{Tally}

-- the same fields, with the units' numbers
abbrev pub load_of : Declared → LoadTile
load_of t = record { fmt = t.fmt; siz = t.siz; line = t.line.0; tmem_addr = t.tmem_addr.0 }

-- the source place of a word's byte k; "Each source offset is taken mod 2" where one pair fills all lanes
abbrev pub place_of : ℕ → Bool → ℕ → ℕ
place_of source replicate k = source + cond replicate (k % 2) k

-- the two stores of the halfword at address a, from places p and q
abbrev pub half_stores : ℕ → ℕ → ℕ → List Store
half_stores a p q = store a p ∷ store (a + 1) q ∷ []

-- a word's eight bytes, of its number
abbrev pub bytes_in : ℕ → List ℕ
bytes_in word = to_le_bytes w64 word

-- the eight bytes that a word load takes from a source, where `from k` is the place of byte k
abbrev pub source_bytes : List ℕ → (ℕ → ℕ) → List ℕ
source_bytes src from = tab 8 (λ k. get_or src (from k) 0)

-- they were taken, and those that are made up counted
pub record Taken (src : List ℕ) (from : ℕ → ℕ) (word : SourceWord) : Type 0 where
  pub bytes_are : bytes_in word.bytes ≡ source_bytes src from
  pub made_up_is : word.made_up ≡ word_made_up (length src) from

-- by how many bits a column's number is shifted: "s div 2 if fmt is 1 or siz is 1; else s div 4 if siz is 0; else s"
abbrev pub column_shift : LoadTile → ℕ
column_shift t = cond (eqb t.fmt 1 || eqb t.siz 1) 1 (cond (eqb t.siz 0) 2 0)

-- of each four bytes of a word that goes to both halves, the low half takes the first and the one a step on
abbrev pub split_step : LoadTile → ℕ
split_step t = cond (eqb t.fmt 1) 2 1

abbrev pub split_four : ℕ → ℕ → ℕ → List Store
split_four step a k = half_stores a k (k + step) ++ half_stores (a + 2048) (k + 3 - step) (k + 3)

-- a word load's first halfword and its odd row's xor
pub record Spots (first odd : ℕ) : Type 0 where
  pub first_in : first < 2048
  pub first_low : first % 4 < 2
  pub odd_in : odd ≤ 2
  pub odd_even : odd % 2 ≡ 0

-- the stores of a list are carried out on the buffers: `at_last x l` is the reference x, its pointer and its ghost name with it, at the
-- list l
pub record Carried (src : List ℕ) (l : List Store) (m m' : Memory) : Type 0 where
  pub bank_is : m'.bank ≡ at_last m.bank (stored src l m.bank.now)
  pub map_is : m'.written ≡ at_last m.written (written m.label.number l m.written.now)
  pub reasons_is : m'.reasons ≡ at_last m.reasons (reasoned m.label.reason l m.reasons.now)
  pub label_is : m'.label ≡ m.label

-- what is counted of a list of stores from a source of `size` bytes
abbrev pub tally_of : ℕ → List Store → Tally
tally_of size l = record { count = length l; made_up = made_up size l }

-- of no stores
abbrev pub no_tally : Tally
no_tally = record { count = 0; made_up = 0 }

-- of one list and another
abbrev pub plus_tally : Tally → Tally → Tally
plus_tally a b = record { count = a.count + b.count; made_up = a.made_up + b.made_up }

-- the stores of a list are carried out, and their tally is answered
pub record Counted (src : List ℕ) (l : List Store) (m m' : Memory) (tally : Tally) : Type 0 where
  pub carried : Carried src l m m'
  pub tally_is : tally ≡ tally_of (length src) l

-- what the three buffers of a load hold
pub record Lists : Type 0 where
  pub bank : List ℕ
  pub map : List ℕ
  pub reasons : List ℕ

abbrev pub lists : List ℕ → List ℕ → List ℕ → Lists
lists b w r = record { bank = b; map = w; reasons = r }

-- the same of buffers that are lent each by itself, for a load with that label
pub record CountedApart (src : List ℕ) (l : List Store) (label : Label) (m m' : Lists) (tally : Tally) : Type 0 where
  pub bank_is : m'.bank ≡ stored src l m.bank
  pub map_is : m'.map ≡ written label.number l m.map
  pub reasons_is : m'.reasons ≡ reasoned label.reason l m.reasons
  pub tally_is : tally ≡ tally_of (length src) l
