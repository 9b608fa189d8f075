-- The stores of one word, by the word of the bank and the byte in it.
use mathlib.Core.Path.{◌≡◌, refl, ap, sym, ◌∙◌}
use mathlib.Core.Bool.{false}
use mathlib.Core.List.{List, [], ◌∷◌}
use Prim.Native.Nat.{ℕ, ◌+◌, ◌*◌, ◌/◌, ◌%◌, ◌<◌}
use native.Mathlib.Nat.{mul-zero, mul_comm, mod-eq_of_lt, div-add-mod'}
use native.Mathlib.Omega.{arith}
use native.Mathlib.Decide.{ℕ_discrete}
use lib.Bits.{bit_and, bit_xor, and_block, and_mask, and_high, xor_block, xor_zero_r}
use lib.Dec.{eqb}
use lib.ListN.{get_or}
use mir.Val.{bool_byte}
use Rattle.rules.specs.Base.{odd}
use Rattle.rules.specs.Load.{Store, store, LoadTile, list4, upper, whole_stores, split_stores, split_at, low_bytes, high_bytes}
use Rattle.rules.specs.Picture.{swap_odd}
use Rattle.rules.proofs.Computed.{agree_below}
use Rattle.tmem.specs.Part.{Spots}
use Rattle.tmem.proofs.Indices.{late, place_held}
use Rattle.roundtrip.proofs.Last.{Sets, Keeps, keeps_none, keeps_one, sets_here, sets_later, keeps_table, sets_table}

-- "all bits but 0x7fd cleared"
pub first-spot : (x : ℕ) → bit_and x 0x7fd ≡ x / 4 % 512 * 4 + x % 2
first-spot x =
    ap (λ n. bit_and n 0x7fd) (sym (div-add-mod' x 4))
    ∙ and_block 2 (x / 4) 511 (x % 4) 1 (omega arith) (omega arith)
    ∙ rw (and_mask (x / 4) 9, and_mask (x % 4) 1) (omega arith)

-- a halfword of word v
pub first_word : (x v : ℕ) → x / 4 ≡ v → x % 2 ≡ 0 → v < 512 → bit_and x 0x7fd ≡ 4 * v
first_word x v e z h = first-spot x ∙ rw (e, z) (omega arith)

-- the xor of an odd row, on a place of a word's four, and on an address
pub xor_place : (k row : ℕ) → k < 4 → bit_xor k (row % 2 * 2) ≡ (k + row % 2 * 2) % 4
xor_place k row m = go (ℕ_discrete (row % 2) 0)
  where
    go : Dec (row % 2 ≡ 0) → bit_xor k (row % 2 * 2) ≡ (k + row % 2 * 2) % 4
    go (yes z) = rw z (xor_zero_r k ∙ omega arith)
    go (no z) =
        let one : row % 2 ≡ 1 = omega arith in
        rw one (agree_below 4 (λ k. bit_xor k 2) (λ k. (k + 2) % 4) tt k m)

pub swapped : (y n : ℕ) → swap_odd (odd y) n ≡ n / 8 * 8 + (n % 8 + y % 2 * 4) % 8
swapped y n = go (ℕ_discrete (y % 2) 1)
  where
    go : Dec (y % 2 ≡ 1) → swap_odd (odd y) n ≡ n / 8 * 8 + (n % 8 + y % 2 * 4) % 8
    go (yes z) =
        rw z
        (ap (λ m. bit_xor m 4) (sym (div-add-mod' n 8))
        ∙ xor_block 3 (n / 8) 0 (n % 8) 4 (omega arith) (omega arith)
        ∙ rw (xor_zero_r (n / 8), agree_below 8 (λ k. bit_xor k 4) (λ k. (k + 4) % 8) tt (n % 8) (omega arith)))
    go (no z) =
        let none : y % 2 ≡ 0 = omega arith in
        rw none (omega arith)

-- place k of word v
in_word : (v k : ℕ) → v < 512 → k < 4 → 2 * ((4 * v / 4 * 4 + k + 4 * 0) % 2048 % 1024) ≡ (4 * v + k) % 1024 * 2
in_word v k h m =
    let w : 4 * v / 4 ≡ v = omega arith in
    let p : v * 4 + k + 4 * 0 ≡ 4 * v + k = omega arith in
    let s : (4 * v + k) % 2048 ≡ 4 * v + k = mod-eq_of_lt (omega arith) in
    rw (w, p, s) (mul_comm 2 ((4 * v + k) % 1024))

-- the list of four of a word load that starts at the first halfword of word v
pub place_at : (v row k : ℕ) → v < 512 → k < 4 → get_or (list4 (4 * v) (row % 2 * 2)) k 0 ≡ (4 * v + k) % 1024 * 2
place_at v row k h m =
    let z : 4 * v % 4 ≡ 0 = omega arith in
    let l : late (4 * v) (row % 2 * 2) k ≡ 0 = rw z (mul-zero (bool_byte (eqb k (row % 2 * 2)))) in
    let spots : Spots (4 * v) (row % 2 * 2) =
    record { first_in = omega arith; first_low = omega arith; odd_in = omega arith; odd_even = omega arith } in
    sym (place_held (4 * v) (row % 2 * 2) k spots m)
    ∙ ap (λ n. 2 * ((4 * v / 4 * 4 + k + 4 * n) % 2048 % 1024)) l
    ∙ in_word v k h m

pub whole_at : (v row k : ℕ) → v < 512 → k < 4 → get_or (list4 (4 * v) (row % 2 * 2)) k 0 + upper (4 * v) ≡ 8 * v + 2 * k
whole_at v row k h m = rw (place_at v row k h m, and_high (4 * v) 1 10) (omega arith)

-- A word that goes to word v of the bank, on an odd row or not; x is what its source has for address a.
module _ (src : List ℕ) (a x v row : ℕ) (from : ℕ → ℕ) (in_bank : a < 4096) (word_in : v < 512)
    (only : (j : ℕ) → j < 8 → 8 * v + j ≡ a → get_or src (from ((j + row % 2 * 4) % 8)) 0 ≡ x) where
  even_store : ℕ → Store
  even_store k = store (get_or (list4 (4 * v) (row % 2 * 2)) k 0 + upper (4 * v)) (from (2 * bit_xor k (row % 2 * 2)))

  odd-store : ℕ → Store
  odd-store k = store (get_or (list4 (4 * v) (row % 2 * 2)) k 0 + upper (4 * v) + 1) (from (2 * bit_xor k (row % 2 * 2) + 1))

  even_right : (k : ℕ) → k < 4 → (even_store k).at ≡ a → get_or src (even_store k).from 0 ≡ x
  unfolding even_store
  even_right k m e =
      let p : 2 * bit_xor k (row % 2 * 2) ≡ (2 * k + row % 2 * 4) % 8 = omega (arith, xor_place k row m) in
      rw p (only (2 * k) (omega arith) (omega (arith, whole_at v row k word_in m)))

  odd_right : (k : ℕ) → k < 4 → (odd-store k).at ≡ a → get_or src (odd-store k).from 0 ≡ x
  unfolding odd-store
  odd_right k m e =
      let p : 2 * bit_xor k (row % 2 * 2) + 1 ≡ (2 * k + 1 + row % 2 * 4) % 8 = omega (arith, xor_place k row m) in
      rw p (only (2 * k + 1) (omega arith) (omega (arith, whole_at v row k word_in m)))

  pair_keeps : (k : ℕ) → k < 4 → Keeps src a x (even_store k ∷ odd-store k ∷ [])
  pair_keeps k m = keeps_one (even_store k) in_bank (even_right k m) (keeps_one (odd-store k) in_bank (odd_right k m) keeps_none)

  pub whole_keeps : Keeps src a x (whole_stores (list4 (4 * v) (row % 2 * 2)) (upper (4 * v)) (row % 2 * 2) from)
  unfolding whole_stores even_store odd-store
  whole_keeps = keeps_table 4 _ pair_keeps

  pair_sets : (k j : ℕ) → k < 4 → k ≡ j / 2 → 8 * v + j ≡ a → Sets src a x (even_store k ∷ odd-store k ∷ [])
  unfolding even_store odd-store
  pair_sets k j m h e = go (ℕ_discrete (j % 2) 0)
    where
      go : Dec (j % 2 ≡ 0) → Sets src a x (even_store k ∷ odd-store k ∷ [])
      go (yes z) =
          let at : (even_store k).at ≡ a = omega (arith, whole_at v row k word_in m) in
          sets_here (even_store k) in_bank at (even_right k m at) (keeps_one (odd-store k) in_bank (odd_right k m) keeps_none)
      go (no z) =
          let at : (odd-store k).at ≡ a = omega (arith, whole_at v row k word_in m) in
          sets_later (even_store k) (sets_here (odd-store k) in_bank at (odd_right k m at) keeps_none)

  pub whole_sets : (j : ℕ) → j < 8 → 8 * v + j ≡ a
      → Sets src a x (whole_stores (list4 (4 * v) (row % 2 * 2)) (upper (4 * v)) (row % 2 * 2) from)
  unfolding whole_stores even_store odd-store
  whole_sets j n e = sets_table 4 _ (j / 2) (omega arith) (pair_sets (j / 2) j (omega arith) refl e) pair_keeps

-- A word of (0,3): half a word in each half of the bank. w is its number in its row.
pub split_start : (w row : ℕ) → bit_xor (bit_and (2 * w) 2) (row % 2 * 2) ≡ (w + row) % 2 * 2
split_start w row =
    let b : bit_and (2 * w) 2 ≡ w % 2 * 2 = and_high (2 * w) 1 1 ∙ omega arith in
    rw (b, xor_place (w % 2 * 2) row (omega arith)) (omega arith)

pub split_at_lem : (v w row i : ℕ) → v < 256 → i < 4
    → split_at (list4 (4 * v) (row % 2 * 2)) ((w + row) % 2 * 2) i ≡ 8 * v + (w + row) % 2 * 4 + i
split_at_lem v w row i h m = rw (place_at v row ((w + row) % 2 * 2 + i / 2) (omega arith) (omega arith)) (omega arith)

module _ (src : List ℕ) (a x : ℕ) (t : LoadTile) (v w row : ℕ) (from : ℕ → ℕ) (in_bank : a < 4096) (word_in : v < 256)
    (rgba : eqb t.fmt 1 ≡ false)
    (only : (i z : ℕ) → i < 4 → z < 2 → 8 * v + (w + row) % 2 * 4 + i + 2048 * z ≡ a → get_or src (from (i + i / 2 * 2 + 2 * z)) 0 ≡ x)
  where
    low_store : ℕ → Store
    low_store i = store (split_at (list4 (4 * v) (row % 2 * 2)) ((w + row) % 2 * 2) i) (from (get_or (low_bytes t) i 0))

    high_store : ℕ → Store
    high_store i = store (split_at (list4 (4 * v) (row % 2 * 2)) ((w + row) % 2 * 2) i + 2048) (from (get_or (high_bytes t) i 0))

    low_right : (i : ℕ) → i < 4 → (low_store i).at ≡ a → get_or src (low_store i).from 0 ≡ x
    unfolding low_store
    low_right i m e =
        let p : get_or (low_bytes t) i 0 ≡ i + i / 2 * 2 + 2 * 0 =
        rw rgba (agree_below 4 (λ i. get_or (0 ∷ 1 ∷ 4 ∷ 5 ∷ []) i 0) (λ i. i + i / 2 * 2 + 2 * 0) tt i m) in
        rw p (only i 0 m (omega arith) (omega (arith, split_at_lem v w row i word_in m)))

    high_right : (i : ℕ) → i < 4 → (high_store i).at ≡ a → get_or src (high_store i).from 0 ≡ x
    unfolding high_store
    high_right i m e =
        let p : get_or (high_bytes t) i 0 ≡ i + i / 2 * 2 + 2 * 1 =
        rw rgba (agree_below 4 (λ i. get_or (2 ∷ 3 ∷ 6 ∷ 7 ∷ []) i 0) (λ i. i + i / 2 * 2 + 2 * 1) tt i m) in
        rw p (only i 1 m (omega arith) (omega (arith, split_at_lem v w row i word_in m)))

    both_keep : (i : ℕ) → i < 4 → Keeps src a x (low_store i ∷ high_store i ∷ [])
    both_keep i m = keeps_one (low_store i) in_bank (low_right i m) (keeps_one (high_store i) in_bank (high_right i m) keeps_none)

    pub split_keeps : Keeps src a x (split_stores t (list4 (4 * v) (row % 2 * 2)) ((w + row) % 2 * 2) from)
    unfolding split_stores low_store high_store
    split_keeps = keeps_table 4 _ both_keep

    both_set : (i z : ℕ) → i < 4 → z < 2 → 8 * v + (w + row) % 2 * 4 + i + 2048 * z ≡ a → Sets src a x (low_store i ∷ high_store i ∷ [])
    unfolding low_store high_store
    both_set i z m n e = go (ℕ_discrete z 0)
      where
        go : Dec (z ≡ 0) → Sets src a x (low_store i ∷ high_store i ∷ [])
        go (yes o) =
            let at : (low_store i).at ≡ a = omega (arith, split_at_lem v w row i word_in m) in
            sets_here (low_store i) in_bank at (low_right i m at) (keeps_one (high_store i) in_bank (high_right i m) keeps_none)
        go (no o) =
            let at : (high_store i).at ≡ a = omega (arith, split_at_lem v w row i word_in m) in
            sets_later (low_store i) (sets_here (high_store i) in_bank at (high_right i m at) keeps_none)

    pub split_sets : (i z : ℕ) → i < 4 → z < 2 → 8 * v + (w + row) % 2 * 4 + i + 2048 * z ≡ a
        → Sets src a x (split_stores t (list4 (4 * v) (row % 2 * 2)) ((w + row) % 2 * 2) from)
    unfolding split_stores low_store high_store
    split_sets i z m n e = sets_table 4 _ i m (both_set i z m n e) both_keep
