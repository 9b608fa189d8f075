-- A texel from its loads: of one byte, of two, or through the lookup table.
use mathlib.Core.Path.{◌≡◌, refl}
use mathlib.Core.Bool.{Bool}
use mathlib.Core.List.{List, [], ◌∷◌}
use Prim.Native.Nat.{ℕ, ◌+◌}
use native.Mathlib.Nat.{le_refl}
use native.Mathlib.Omega.{arith}
use lib.Seq.{take_all}
use Rattle.rules.specs.Reading.{ask, give, given, trail}
use Rattle.rules.specs.Tile.{Tile}
use Rattle.rules.specs.Picture.{paletted}
use Rattle.decoder.specs.declared.load.Load.{Load}
use Rattle.decoder.specs.declared.palette.Entry.{Entry}
use Rattle.decoder.specs.Steps.{load_at, Decodes, EntryIs}
use Rattle.decoder.specs.Tables.{entry_gives}

module _ (bank : List ℕ) where
  -- one byte, and two
  pub one_is : (l : Load) (a : ℕ) (channels : List ℕ) (g : ℕ → List ℕ) → l ≡ load_at bank a → channels ≡ g l.byte
      → Decodes (ask a (λ v. give (g v))) bank (record { channels = channels; reads = l.at ∷ 0 ∷ 0 ∷ 0 ∷ []; count = 1 })
  unfolding given trail
  one_is l a channels g e q =
      rw (q, e) (record { channels = take_all _ _ (le_refl _); reads = refl; few = omega arith; full = refl })

  pub two_is : (l m : Load) (a b : ℕ) (channels : List ℕ) (g : ℕ → ℕ → List ℕ) → l ≡ load_at bank a → m ≡ load_at bank b
      → channels ≡ g l.byte m.byte
      → Decodes (ask a (λ hi. ask b (λ lo. give (g hi lo)))) bank
      (record { channels = channels; reads = l.at ∷ m.at ∷ 0 ∷ 0 ∷ []; count = 2 })
  unfolding given trail
  two_is l m a b channels g d e q =
      rw (q, d, e) (record { channels = take_all _ _ (le_refl _); reads = refl; few = omega arith; full = refl })

module _ (t : Tile) (mode lane : ℕ) (odd : Bool) (rel x : ℕ) where
  -- an index byte and the entry that it stands for make a texel
  pub paletted_is : (bank : List ℕ) (e : Entry) (channels : List ℕ) → EntryIs t lane odd rel x bank e
      → channels ≡ entry_gives mode lane bank e.index
      → Decodes (paletted t mode lane odd rel x) bank
      (record { channels = channels; reads = e.load.at ∷ e.at ∷ (e.at + 1) ∷ 0 ∷ []; count = 3 })
  unfolding paletted given trail
  paletted_is bank e channels i q =
      rw (q, i.at, i.index, i.load) (record { channels = take_all _ _ (le_refl _); reads = refl; few = omega arith; full = refl })
