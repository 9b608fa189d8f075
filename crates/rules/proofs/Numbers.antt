-- Laws of the written record, document 02's item 7: storing numbers keeps its length and goes list after list; the number at an address
-- after a load; and that it is not zero exactly where a map of marks has the address.
use mathlib.Core.Path.{◌≡◌, refl, ◌∙◌}
use mathlib.Core.Bool.{Bool, true, false, cond, not, ◌||◌}
use mathlib.Core.List.{List, [], ◌∷◌, ◌++◌}
use Prim.Native.Nat.{ℕ, ◌+◌, ◌*◌, ◌/◌, ◌%◌, ◌<◌}
use native.Mathlib.Omega.{arith}
use native.Mathlib.Decide.{ℕ_discrete}
use lib.Dec.{eqb}
use lib.ListN.{length, set, length-set}
use lib.Seq.{get_or-set_same, get_or-set_other}
use borrow.Author.Tests.{eq-eqb, ne_eqb}
use Rattle.rules.specs.Base.{mem, is_marked, marks, number_at, is_written, stamped, stamps}
use Rattle.rules.specs.Tile.{bank_size, map_size, written_size, fresh_map, fresh_written}
use Rattle.rules.specs.Load.{Store, addresses, written}
use Rattle.rules.proofs.Maps.{marks_at, zeros_at, fresh_unmarked}

pub length-stamped : (n : ℕ) (m : List ℕ) (a : ℕ) → length (stamped n m a) ≡ length m
unfolding stamped
length-stamped n m a = simp length-set

pub length-stamps : (n : ℕ) (m l : List ℕ) → length (stamps n m l) ≡ length m
unfolding stamps
length-stamps n m [] = refl
length-stamps n m (a ∷ l) = length-stamps n (stamped n m a) l ∙ length-stamped n m a

pub stamps-append : (n : ℕ) (m l k : List ℕ) → stamps n m (l ++ k) ≡ stamps n (stamps n m l) k
unfolding stamps
stamps-append n m [] k = refl
stamps-append n m (a ∷ l) k = stamps-append n (stamped n m a) l k

-- the number at the address that it is stored at, and at another
module _ (n : ℕ) (m : List ℕ) (a : ℕ) where
  number-here : 2 * a + 1 < length m → number_at (stamped n m a) a ≡ n
  unfolding number_at stamped
  number-here h =
      let l : 2 * a + 1 < length (set m (2 * a) (n / 256)) = rw length-set h in
      rw (
        get_or-set_other (set m (2 * a) (n / 256)) (2 * a + 1) (2 * a) (n % 256) 0 (λ e. omega arith),
        get_or-set_same m (2 * a) (n / 256) 0 (omega arith),
        get_or-set_same (set m (2 * a) (n / 256)) (2 * a + 1) (n % 256) 0 l,
      )
      (omega arith)

  number_there : (b : ℕ) → (b ≡ a → ⊥) → number_at (stamped n m a) b ≡ number_at m b
  unfolding number_at stamped
  number_there b h =
      rw (
        get_or-set_other (set m (2 * a) (n / 256)) (2 * a + 1) (2 * b) (n % 256) 0 (λ e. omega arith),
        get_or-set_other m (2 * a) (2 * b) (n / 256) 0 (λ e. h (omega arith)),
        get_or-set_other (set m (2 * a) (n / 256)) (2 * a + 1) (2 * b + 1) (n % 256) 0 (λ e. h (omega arith)),
        get_or-set_other m (2 * a) (2 * b + 1) (n / 256) 0 (λ e. omega arith),
      )

numbers_at : (n : ℕ) (l m : List ℕ) (a : ℕ) → 2 * a + 1 < length m → number_at (stamps n m l) a ≡ cond (mem a l) n (number_at m a)
unfolding stamps mem
numbers_at n [] m a h = refl
numbers_at n (b ∷ l) m a h = numbers_at n l (stamped n m b) a (rw length-stamped h) ∙ go (ℕ_discrete a b) (mem a l)
  where
    go : Dec (a ≡ b) → (c : Bool) → cond c n (number_at (stamped n m b) a) ≡ cond (eqb a b || c) n (number_at m a)
    go (yes e) true = rw (eq-eqb a b e)
    go (yes e) false =
        let k : 2 * b + 1 < length m = omega arith in
        rw (eq-eqb a b e, e) (number-here n m b k)
    go (no e) true = rw (ne_eqb a b e)
    go (no e) false = rw (ne_eqb a b e) (number_there n m b a e)

-- The number at an address after a load is the load's where it stored, else the old one.
pub written_at : (n : ℕ) (l : List Store) (m : List ℕ) (a : ℕ) → 2 * a + 1 < length m
    → number_at (written n l m) a ≡ cond (mem a (addresses l)) n (number_at m a)
unfolding written
written_at n l m a h = numbers_at n (addresses l) m a h

-- "Demand 2 compares zero against not zero with the Rust's marks": an address is written in the record exactly where the map marks it.
abbrev pub Same : List ℕ → List ℕ → Type 0
Same m marked = (a : ℕ) → a < bank_size → is_written m a ≡ is_marked marked a

pub fresh-same : Same fresh_written fresh_map
unfolding is_written number_at
fresh-same a h = rw (zeros_at written_size (2 * a), zeros_at written_size (2 * a + 1), fresh_unmarked a)

-- a load's stores keep them the same, where each marks its address as document 01 has it
pub still_same : (n : ℕ) (l : List Store) (m marked : List ℕ) → (n ≡ 0 → ⊥) → length m ≡ written_size → length marked ≡ map_size
    → Same m marked → Same (written n l m) (marks marked (addresses l))
unfolding is_written
still_same n l m marked some wm wk same a h =
    rw (written_at n l m a (omega arith), marks_at (addresses l) marked a (omega arith)) (go (mem a (addresses l)) (same a h))
  where
    go : (b : Bool) → is_written m a ≡ is_marked marked a → not (eqb (cond b n (number_at m a)) 0) ≡ (b || is_marked marked a)
    go true e = rw (ne_eqb n 0 some)
    go false e = e
