-- Laws of stores: they are carried out list after list, and keep the lengths of bank and written record; a word's, by its shape.
use mathlib.Core.Path.{◌≡◌, refl, ap, ◌∙◌}
use mathlib.Core.Bool.{Bool, true, false, cond}
use mathlib.Core.List.{List, [], ◌∷◌, ◌++◌}
use Prim.Native.Nat.{ℕ, ◌+◌, ◌*◌, ◌%◌}
use lib.Bits.{bit_and, bit_xor}
use lib.ListN.{length, get_or, length-set}
use Rattle.rules.specs.Base.{tab, concat, stamps}
use Rattle.rules.specs.Load.{Store, store, LoadTile, halfword, base, first_spot, odd_spot, list4, splits, upper, split_at}
use Rattle.rules.specs.Load.{split_stores, whole_stores, word_stores, stored, addresses, written}
use Rattle.rules.proofs.Numbers.{stamps-append, length-stamps}

pub stored-append : (src : List ℕ) (l m : List Store) (bank : List ℕ) → stored src (l ++ m) bank ≡ stored src m (stored src l bank)
unfolding stored
stored-append src [] m bank = refl
stored-append src (s ∷ l) m bank = stored-append src l m _

pub length-stored : (src : List ℕ) (l : List Store) (bank : List ℕ) → length (stored src l bank) ≡ length bank
unfolding stored
length-stored src [] bank = refl
length-stored src (s ∷ l) bank = length-stored src l _ ∙ length-set bank s.at _

addresses-append : (l m : List Store) → addresses (l ++ m) ≡ addresses l ++ addresses m
addresses-append [] m = refl
addresses-append (s ∷ l) m = ap (λ r. s.at ∷ r) (addresses-append l m)

pub written-append : (n : ℕ) (l m : List Store) (map : List ℕ) → written n (l ++ m) map ≡ written n m (written n l map)
unfolding written
written-append n l m map = ap (stamps n map) (addresses-append l m) ∙ stamps-append n map (addresses l) (addresses m)

pub length-written : (n : ℕ) (l : List Store) (map : List ℕ) → length (written n l map) ≡ length map
unfolding written
length-written n l map = length-stamps n map (addresses l)

-- the stores of a split word, by whether its format is 1: what `split_stores` unfolds to
abbrev pub split_by : Bool → List ℕ → ℕ → (ℕ → ℕ) → List Store
split_by yuv l start from =
    concat (tab 4 (λ i.
    store (split_at l start i) (from (get_or (cond yuv (0 ∷ 2 ∷ 4 ∷ 6 ∷ []) (0 ∷ 1 ∷ 4 ∷ 5 ∷ [])) i 0))
    ∷ store (split_at l start i + 2048) (from (get_or (cond yuv (1 ∷ 3 ∷ 5 ∷ 7 ∷ []) (2 ∷ 3 ∷ 6 ∷ 7 ∷ [])) i 0))
    ∷ []))

-- what holds of a word's stores in either shape, at any places, holds of them
pub either_shape : (t : LoadTile) (s row : ℕ) (from : ℕ → ℕ) (P : List Store → Type 0)
    → ((l : List ℕ) (start : ℕ) → P (split_stores t l start from))
    → ((l : List ℕ) (high : ℕ) → P (whole_stores l high (row % 2 * 2) from))
    → P (word_stores t s row from)
unfolding word_stores
either_shape t s row from P split whole = go (splits t)
  where
    h : ℕ
    h = halfword t s

    f : ℕ
    f = first_spot (base t row) h

    o : ℕ
    o = odd_spot row

    go : (b : Bool) → P (cond b (split_stores t (list4 f o) (bit_xor (bit_and h 2) o) from) (whole_stores (list4 f o) (upper f) o from))
    go true = split (list4 f o) (bit_xor (bit_and h 2) o)
    go false = whole (list4 f o) (upper f)
