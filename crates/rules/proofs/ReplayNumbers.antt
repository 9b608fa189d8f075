-- The numbers of a replay's loads, document 02's item 7: the last one is the count of loads done, an address's is that of the last load
-- that stored there, and none is above the last.
use mathlib.Core.Path.{◌≡◌, refl, ap, sym, ◌∙◌}
use mathlib.Core.Bool.{Bool, true, false, cond}
use mathlib.Core.List.{List, [], ◌∷◌}
use Prim.Native.Nat.{ℕ, ◌+◌, ◌*◌, ◌<◌, ◌≤◌}
use native.Mathlib.Nat.{add-zero}
use native.Mathlib.Omega.{arith}
use lib.ListN.{length, length-replicate}
use Rattle.rules.specs.Base.{mem, number_at}
use Rattle.rules.specs.Tile.{bank_size, written_size}
use Rattle.rules.specs.Load.{addresses, following}
use Rattle.rules.specs.Replay.{stores_in, Carried, fresh, in_file, onward, replayed}
use Rattle.rules.proofs.Maps.{zeros_at}
use Rattle.rules.proofs.Loads.{length-written}
use Rattle.rules.proofs.Numbers.{written_at}
use Rattle.rules.proofs.Replay.{loads, done, not_done_keeps, done_leaves}

-- The number of the last of some loads that stored at address a, where the first of them has the number that follows n; `old` where
-- none of them did.
unfoldable pub last_to : ℕ → List (List ℕ) → ℕ → ℕ → ℕ
last_to a [] n old = old
last_to a (r ∷ l) n old = last_to a l (following n) (cond (mem a (addresses (stores_in r))) (following n) old)

-- it is none above the last load's
last_within : (a : ℕ) (l : List (List ℕ)) (n old : ℕ) → old ≤ n → last_to a l n old ≤ n + length l
unfolding last_to
last_within a [] n old h = omega arith
last_within a (r ∷ l) n old h =
    let stores = mem a (addresses (stores_in r)) in
    omega (arith, last_within a l (following n) (cond stores (following n) old) (go stores))
  where
    go : (b : Bool) → cond b (following n) old ≤ following n
    go true = omega arith
    go false = omega arith

module _ (file : List ℕ) where
  -- the last number is the count of the loads done, "counted from 1 since the fresh state"
  pub last_is : (l : List (List ℕ)) (m : Carried) → (replayed (in_file file) l m).last ≡ m.last + length (done file l m)
  unfolding replayed done
  last_is [] m = sym (add-zero m.last)
  last_is (r ∷ l) m = go (loads file r m.last) refl (last_is l)
    where
      go : (b : Bool) → loads file r m.last ≡ b
          → ((n : Carried) → (replayed (in_file file) l n).last ≡ n.last + length (done file l n))
          → (replayed (in_file file) l (onward (in_file file r m))).last
          ≡ m.last + length (cond b (r ∷ done file l (onward (in_file file r m))) (done file l m))
      go true e ih =
          let taken : (onward (in_file file r m)).last ≡ following m.last = ap (λ (n : Carried). n.last) (done_leaves file r m e) in
          ih (onward (in_file file r m)) ∙ omega (arith, taken)
      go false e ih = rw (not_done_keeps file r m e) (ih m)

  pub fresh_last : (l : List (List ℕ)) → (replayed (in_file file) l fresh).last ≡ length (done file l fresh)
  fresh_last l = last_is l fresh ∙ omega arith

  -- "the number of the last load that stored there"
  pub number_is : (a : ℕ) → a < bank_size → (l : List (List ℕ)) (m : Carried) → length m.map ≡ written_size
      → number_at (replayed (in_file file) l m).map a ≡ last_to a (done file l m) m.last (number_at m.map a)
  unfolding replayed done last_to
  number_is a h [] m w = refl
  number_is a h (r ∷ l) m w = go (loads file r m.last) refl (number_is a h l)
    where
      go : (b : Bool) → loads file r m.last ≡ b
          → ((n : Carried) → length n.map ≡ written_size
          → number_at (replayed (in_file file) l n).map a ≡ last_to a (done file l n) n.last (number_at n.map a))
          → number_at (replayed (in_file file) l (onward (in_file file r m))).map a
          ≡ last_to a (cond b (r ∷ done file l (onward (in_file file r m))) (done file l m)) m.last (number_at m.map a)
      go true e ih =
          let n = onward (in_file file r m) in
          let left = done_leaves file r m e in
          let whole : length n.map ≡ written_size =
          ap (λ (c : Carried). length c.map) left ∙ length-written (following m.last) (stores_in r) m.map ∙ w in
          let here = ap (λ (c : Carried). number_at c.map a) left
          ∙ written_at (following m.last) (stores_in r) m.map a (omega arith) in
          ih n whole ∙ rw (here, ap (λ (c : Carried). c.last) left)
      go false e ih = rw (not_done_keeps file r m e) (ih m w)

  -- no number is above the last
  pub none_above : (a : ℕ) → a < bank_size → (l : List (List ℕ)) (m : Carried) → length m.map ≡ written_size
      → number_at m.map a ≤ m.last → number_at (replayed (in_file file) l m).map a ≤ (replayed (in_file file) l m).last
  none_above a h l m w low =
      omega (arith, number_is a h l m w, last_is l m, last_within a (done file l m) m.last (number_at m.map a) low)

  -- from the fresh state on: 0 where no load stored
  fresh_none : (a : ℕ) → number_at fresh.map a ≡ 0
  unfolding number_at
  fresh_none a = rw (zeros_at written_size (2 * a), zeros_at written_size (2 * a + 1))

  pub fresh-number : (a : ℕ) → a < bank_size → (l : List (List ℕ))
      → (number_at (replayed (in_file file) l fresh).map a ≡ last_to a (done file l fresh) 0 0)
      × (number_at (replayed (in_file file) l fresh).map a ≤ length (done file l fresh))
  fresh-number a h l =
      let w = length-replicate {A = ℕ} written_size 0 in
      let none : number_at fresh.map a ≤ 0 = omega (arith, fresh_none a) in
      (number_is a h l fresh w ∙ rw (fresh_none a), omega (arith, none_above a h l fresh w none, fresh_last l))
