-- Laws of the tables of entries: their halves; each texel once, and all that an index byte can stand for.
use mathlib.Core.Path.{◌≡◌, refl, ◌∙◌}
use mathlib.Core.Bool.{Bool, true, false, cond}
use mathlib.Core.List.{List}
use Prim.Native.Nat.{ℕ, ◌+◌, ◌*◌, ◌<◌, ◌≤◌}
use native.Mathlib.Nat.{zero-add}
use native.Mathlib.Decide.{ℕ_discrete}
use native.Mathlib.Omega.{arith}
use lib.Dec.{eqb}
use lib.ListN.{length, get_or, set}
use lib.Seq.{get_or-set_same, get_or-set_other}
use Rattle.rules.specs.Reading.{given}
use Rattle.rules.specs.Tile.{Tile}
use Rattle.rules.specs.Texdec.{entry_of, rgba16_texel, ia16_texel, nibble, channels}
use Rattle.rules.specs.Picture.{entry_at}
use Rattle.texdec.specs.Ready.{halves_of}
use Rattle.texdec.proofs.Halves.{Sums, rgba16_halves_at, ia16_halves_at}
use Rattle.texdec.proofs.Nibbles.{nibble_small}
use Rattle.decoder.specs.Tables.{entry_format, half_sum, first_entry, entry_count, entry_gives}
use Rattle.decoder.specs.Tables.{EntryTable}

-- the halves of a mode's entries make their texels
pub entry_sums : (mode hi lo : ℕ) → hi < 256 → lo < 256
    → Sums (entry_format mode) hi lo (half_sum (halves_of (entry_format mode)) hi lo)
entry_sums mode hi lo p q = go (eqb mode 2)
  where
    go : (b : Bool) → let f = cond b rgba16_texel ia16_texel in Sums f hi lo (half_sum (halves_of f) hi lo)
    go true = rgba16_halves_at hi lo p q
    go false = ia16_halves_at hi lo p q

-- and what they make of an entry of the bank is what it gives
pub sum_gives : (mode lane : ℕ) (bank : List ℕ) (i hi lo sum : ℕ) → hi ≡ get_or bank (entry_at i lane) 0
    → lo ≡ get_or bank (entry_at i lane + 1) 0 → Sums (entry_format mode) hi lo sum → channels sum ≡ entry_gives mode lane bank i
unfolding given
sum_gives mode lane bank i hi lo sum eh el s = s.gives ∙ rw (← eh, ← el) (go (eqb mode 2) (entry_of hi lo))
  where
    go : (b : Bool) (v : ℕ) → cond b rgba16_texel ia16_texel v ≡ cond b (rgba16_texel v) (ia16_texel v)
    go true v = refl
    go false v = refl

-- the first k of the entries from `first` on stand in the table
abbrev pub Filled : ℕ → ℕ → List ℕ → ℕ → List ℕ → ℕ → Type 0
Filled mode lane bank first table k = (j : ℕ) → j < k → channels (get_or table (first + j) 0) ≡ entry_gives mode lane bank (first + j)

pub filled_more : (mode lane : ℕ) (bank : List ℕ) (first : ℕ) (table : List ℕ) (k v : ℕ) → first + k < length table
    → Filled mode lane bank first table k → channels v ≡ entry_gives mode lane bank (first + k)
    → Filled mode lane bank first (set table (first + k) v) (k + 1)
filled_more mode lane bank first table k v h f e j p = go (ℕ_discrete j k)
  where
    go : Dec (j ≡ k) → channels (get_or (set table (first + k) v) (first + j) 0) ≡ entry_gives mode lane bank (first + j)
    go (yes q) = rw (q, get_or-set_same table (first + k) v 0 h) e
    go (no q) =
        let other : first + j ≡ first + k → ⊥ = λ r. q (omega (arith, r)) in
        rw (get_or-set_other table (first + k) (first + j) v 0 other) (f j (omega (arith, q)))

module _ (t : Tile) where
  pub entries_end : t.palette ≤ 15 → first_entry t + entry_count t ≤ 256
  entries_end h = go (eqb t.siz 0)
    where
      go : (b : Bool) → cond b (t.palette * 16) 0 + cond b 16 256 ≤ 256
      go true = omega arith
      go false = omega arith

  pub entries-all : (mode lane : ℕ) (bank table : List ℕ) → length table ≡ 256
      → Filled mode lane bank (first_entry t) table (entry_count t)
      → EntryTable t mode lane bank table
  entries-all mode lane bank table n f =
      record { size = n; at = λ x v h. let y = cond (eqb t.fmt 1) 0 x in go (nibble y v) v (nibble_small y v h) h (eqb t.siz 0) f }
    where
      go : (n v : ℕ) → n < 16 → v < 256 → (b : Bool) → Filled mode lane bank (cond b (t.palette * 16) 0) table (cond b 16 256)
          → channels (get_or table (cond b (t.palette * 16 + n) v) 0) ≡ entry_gives mode lane bank (cond b (t.palette * 16 + n) v)
      go n v p q true g = g n p
      go n v p q false g = rw zero-add at (g v q)
