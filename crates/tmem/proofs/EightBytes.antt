-- A word's eight bytes, taken from a source before they are stored.
use denote.Ref.{at_last}
use mathlib.Core.Path.{◌≡◌, refl, ap, ◌∙◌}
use mathlib.Core.Bool.{Bool, true, false}
use mathlib.Core.List.{List}
use Prim.Native.Nat.{ℕ, zero, suc, ◌+◌, ◌*◌, ◌/◌, ◌%◌, ◌<◌, ◌^◌}
use native.Mathlib.Omega.{arith}
use lib.Dec.{eqb}
use lib.ListN.{get_or}
use Rattle.rules.specs.Base.{tab, tab_from, concat, stamps}
use Rattle.rules.specs.Load.{store, LoadTile, split_stores, whole_stores, stored, written, reasoned}
use Rattle.rules.proofs.Loads.{split_by}
use Rattle.tmem.specs.declared.memory.Memory.{Memory}
use Rattle.tmem.specs.Part.{bytes_in, source_bytes, Carried}

-- a byte of a word, by a shift
pub byte_shifted : (n k : ℕ) → k < 8 → n / 2 ^ (8 * k) % 256 ≡ get_or (bytes_in n) k 0
byte_shifted n zero h = omega arith
byte_shifted n (suc zero) h = refl
byte_shifted n (suc (suc zero)) h = refl
byte_shifted n (suc (suc (suc zero))) h = refl
byte_shifted n (suc (suc (suc (suc zero)))) h = refl
byte_shifted n (suc (suc (suc (suc (suc zero))))) h = refl
byte_shifted n (suc (suc (suc (suc (suc (suc zero)))))) h = refl
byte_shifted n (suc (suc (suc (suc (suc (suc (suc zero))))))) h = refl
byte_shifted n (suc (suc (suc (suc (suc (suc (suc (suc k)))))))) h = absurd (omega arith)

-- Stores of a word's own bytes, once these are taken from the source, are the rule's stores.
module _ (src : List ℕ) (from : ℕ → ℕ) {m m' : Memory} where
  pub split_taken : (t : LoadTile) (l : List ℕ) (start : ℕ)
      → Carried (source_bytes src from) (split_stores t l start (λ k. k)) m m'
      → Carried src (split_stores t l start from) m m'
  unfolding split_stores concat tab tab_from stored written stamps reasoned
  split_taken t l start p = record
      { bank_is = p.bank_is ∙ ap (at_last m.bank) (go (eqb t.fmt 1)); map_is = p.map_is; reasons_is = p.reasons_is; label_is = p.label_is }
    where
      go : (yuv : Bool)
          → stored (source_bytes src from) (split_by yuv l start (λ k. k)) m.bank.now ≡ stored src (split_by yuv l start from) m.bank.now
      go true = refl
      go false = refl

  pub whole_taken : (l : List ℕ) (high o : ℕ) → o < 2
      → Carried (source_bytes src from) (whole_stores l high (o * 2) (λ k. k)) m m'
      → Carried src (whole_stores l high (o * 2) from) m m'
  unfolding whole_stores concat tab tab_from stored written stamps reasoned
  whole_taken l high zero h p = record { bank_is = p.bank_is; map_is = p.map_is; reasons_is = p.reasons_is; label_is = p.label_is }
  whole_taken l high (suc zero) h p = record { bank_is = p.bank_is; map_is = p.map_is; reasons_is = p.reasons_is; label_is = p.label_is }
  whole_taken l high (suc (suc o)) h p = absurd (omega arith)

  pub entry-taken : (at : ℕ)
      → Carried (source_bytes src from) (tab 8 (λ k. store (at + k) k)) m m'
      → Carried src (tab 8 (λ k. store (at + k) (from k))) m m'
  unfolding tab tab_from stored written stamps reasoned
  entry-taken at p = record { bank_is = p.bank_is; map_is = p.map_is; reasons_is = p.reasons_is; label_is = p.label_is }
