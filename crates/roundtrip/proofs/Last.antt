-- What a bank holds at an address after a list of stores.
use mathlib.Core.Path.{◌≡◌, sym, ◌∙◌}
use mathlib.Core.List.{List, [], ◌∷◌, ◌++◌}
use Prim.Native.Nat.{ℕ, zero, suc, ◌+◌, ◌<◌}
use native.Mathlib.Omega.{arith}
use native.Mathlib.Decide.{ℕ_discrete}
use native.Mathlib.Numerals.{add-one}
use lib.ListN.{length, get_or, set, length-set}
use lib.Seq.{get_or-set_same, get_or-set_other}
use Rattle.rules.specs.Base.{tab, tab_from, concat}
use Rattle.rules.specs.Load.{Store, stored}
use Rattle.rules.proofs.Tables.{concat-more}
use Rattle.rules.proofs.Loads.{stored-append, length-stored}

-- after the stores a bank holds v at a, whatever it held
pub record Sets (src : List ℕ) (a v : ℕ) (l : List Store) : Type 0 where
  pub holds : (bank : List ℕ) → length bank ≡ 4096 → get_or (stored src l bank) a 0 ≡ v

-- a bank that holds v at a still does after the stores
pub record Keeps (src : List ℕ) (a v : ℕ) (l : List Store) : Type 0 where
  pub still : (bank : List ℕ) → length bank ≡ 4096 → get_or bank a 0 ≡ v → get_or (stored src l bank) a 0 ≡ v

module _ (src : List ℕ) (a v : ℕ) where
  -- a store of v at a, and one that if it goes to a stores v
  placed : (s : Store) (bank : List ℕ) → length bank ≡ 4096 → a < 4096 → s.at ≡ a → get_or src s.from 0 ≡ v
      → get_or (set bank s.at (get_or src s.from 0)) a 0 ≡ v
  placed s bank n m q h = rw q (get_or-set_same bank a (get_or src s.from 0) 0 (omega arith) ∙ h)

  kept : (s : Store) (bank : List ℕ) → length bank ≡ 4096 → a < 4096 → (s.at ≡ a → get_or src s.from 0 ≡ v) → get_or bank a 0 ≡ v
      → get_or (set bank s.at (get_or src s.from 0)) a 0 ≡ v
  kept s bank n m h e = go (ℕ_discrete s.at a)
    where
      go : Dec (s.at ≡ a) → get_or (set bank s.at (get_or src s.from 0)) a 0 ≡ v
      go (yes q) = placed s bank n m q (h q)
      go (no q) = get_or-set_other bank s.at a (get_or src s.from 0) 0 (λ z. q (sym z)) ∙ e

  whole : (s : Store) (bank : List ℕ) → length bank ≡ 4096 → length (set bank s.at (get_or src s.from 0)) ≡ 4096
  whole s bank n = length-set bank s.at (get_or src s.from 0) ∙ n

module _ {src : List ℕ} {a v : ℕ} where
  pub keeps_none : Keeps src a v []
  unfolding stored
  keeps_none = record { still = λ bank n e. e }

  pub keeps_one : (s : Store) {l : List Store} → a < 4096 → (s.at ≡ a → get_or src s.from 0 ≡ v) → Keeps src a v l
      → Keeps src a v (s ∷ l)
  unfolding stored
  keeps_one s m h k = record { still = λ bank n e. k.still _ (whole src a v s bank n) (kept src a v s bank n m h e) }

  pub sets_here : (s : Store) {l : List Store} → a < 4096 → s.at ≡ a → get_or src s.from 0 ≡ v → Keeps src a v l → Sets src a v (s ∷ l)
  unfolding stored
  sets_here s m q h k = record { holds = λ bank n. k.still _ (whole src a v s bank n) (placed src a v s bank n m q h) }

  pub sets_later : (s : Store) {l : List Store} → Sets src a v l → Sets src a v (s ∷ l)
  unfolding stored
  sets_later s k = record { holds = λ bank n. k.holds _ (whole src a v s bank n) }

  keeps_then : (l m : List Store) → Keeps src a v l → Keeps src a v m → Keeps src a v (l ++ m)
  keeps_then l m p q =
      record {
        still = λ bank n e. rw stored-append (q.still (stored src l bank) (length-stored src l bank ∙ n) (p.still bank n e));
      }

  sets_then : (l m : List Store) → Sets src a v l → Keeps src a v m → Sets src a v (l ++ m)
  sets_then l m p q =
      record { holds = λ bank n. rw stored-append (q.still (stored src l bank) (length-stored src l bank ∙ n) (p.holds bank n)) }

  sets_after : (l m : List Store) → Sets src a v m → Sets src a v (l ++ m)
  sets_after l m q = record { holds = λ bank n. rw stored-append (q.holds (stored src l bank) (length-stored src l bank ∙ n)) }

  keeps_empty : (f : ℕ → List Store) → Keeps src a v (concat (tab 0 f))
  unfolding concat tab tab_from
  keeps_empty f = keeps_none

  -- the lists of a table
  pub keeps_table : (n : ℕ) (f : ℕ → List Store) → ((i : ℕ) → i < n → Keeps src a v (f i)) → Keeps src a v (concat (tab n f))
  keeps_table zero f h = keeps_empty f
  keeps_table (suc n) f h =
      rw (← add-one n, concat-more n f)
      (keeps_then (concat (tab n f)) (f n) (keeps_table n f (λ i p. h i (omega arith))) (h n (omega arith)))

  pub sets_table : (n : ℕ) (f : ℕ → List Store) (i : ℕ) → i < n → Sets src a v (f i) → ((j : ℕ) → j < n → Keeps src a v (f j))
      → Sets src a v (concat (tab n f))
  sets_table zero f i m s h = absurd (omega arith)
  sets_table (suc n) f i m s h = rw (← add-one n, concat-more n f) (go (ℕ_discrete i n) (sets_table n f i))
    where
      go : Dec (i ≡ n) → (i < n → Sets src a v (f i) → ((j : ℕ) → j < n → Keeps src a v (f j)) → Sets src a v (concat (tab n f)))
          → Sets src a v (concat (tab n f) ++ f n)
      go (yes e) ih = sets_after (concat (tab n f)) (f n) (rw e at s)
      go (no e) ih = sets_then (concat (tab n f)) (f n) (ih (omega arith) s (λ j p. h j (omega arith))) (h n (omega arith))
