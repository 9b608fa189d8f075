-- What the tests of a replay's record leave where none fails, and the calls by their tests.
use mathlib.Core.Path.{◌≡◌, refl, ap, sym, ◌∙◌}
use mathlib.Core.Bool.{Bool, true, false, cond}
use mathlib.Core.List.{List, [], ◌∷◌}
use Prim.Native.Nat.{ℕ, ◌≤◌}
use native.Mathlib.Omega.{arith}
use lib.Dec.{ltb}
use lib.ListN.{length}
use borrow.Author.Tests.{ltb-false, le-ltb}
use Rattle.rules.specs.Tile.{Tile, load_fields_outside}
use Rattle.rules.specs.Load.{stored, written, following, ordinary, reason_left, reasoned}
use Rattle.rules.specs.Key.{kept_count}
use Rattle.rules.specs.Refusal.{Test, ◌if◌, first, settle, call_or}
use Rattle.rules.specs.Calls.{source_outside, number_tests, pair_tests}
use Rattle.rules.specs.Replay.{replay_size, kind_in, lane_in, tile_in, mode_in, image_in, size_in, asks_key, stores_in, outside_in}
use Rattle.rules.specs.Replay.{beyond, record_tests, Carried, lent_of, spent, count_of, left, last_of, tested, step_tests, outcome}
use Rattle.rules.specs.Replay.{part_of}
use Rattle.rules.specs.Replay.{short_part, own_tests, replay_tests, replay_call}
use Rattle.rules.proofs.Ranges.{neither}
use Rattle.rules.proofs.Refused.{Numbered, numbered, first_zero, first-front, first-after}
use Rattle.rules.proofs.LentTests.{lent_passed}

-- a load's numbers with a shorter source
pub shorter_source : (size less : ℕ) (t : Tile) (image : ℕ) (outside : Bool) (l : List Test) → less ≤ size
    → first (number_tests size t image outside l) ≡ 0 → first (number_tests less t image outside []) ≡ 0
unfolding first
shorter_source size less t image outside l h z =
    let p = first_zero (2 if load_fields_outside t) ((4 if source_outside size image) ∷ (4 if outside) ∷ l) (λ e. omega arith) z in
    let q = first_zero (4 if source_outside size image) ((4 if outside) ∷ l) (λ e. omega arith) p.1 in
    let s = neither (ltb 65536 size) (ltb 3 image) q.0 in
    let r = first_zero (4 if outside) l (λ e. omega arith) q.1 in
    let small : less ≤ 65536 = omega (arith, ltb-false 65536 size s.0) in
    rw (p.0, le-ltb 65536 less small, s.1, r.0)

module _ (end : ℕ) (r : List ℕ) where
  abbrev pub key_tests_in : List Test
  key_tests_in = pair_tests (tile_in r) (mode_in r) (lane_in r)

  abbrev pub load_tests_in : List Test
  load_tests_in = number_tests (size_in r) (tile_in r) (image_in r) (outside_in r) (beyond end r ∷ [])

  abbrev torn : Test
  torn = 8 if ltb (length r) replay_size

  abbrev unknown_kind : Test
  unknown_kind = 10 if ltb 3 (kind_in r)

  pub tests_numbered : Numbered (record_tests end r)
  unfolding record_tests
  tests_numbered = go (asks_key r)
    where
      go : (b : Bool) → Numbered (torn ∷ unknown_kind ∷ cond b key_tests_in load_tests_in)
      go true = numbered (torn ∷ unknown_kind ∷ key_tests_in) refl
      go false = numbered (torn ∷ unknown_kind ∷ load_tests_in) refl

  module _ (accepted : first (record_tests end r) ≡ 0) where
    -- the record is whole, and passes the tests of its kind
    passes : (replay_size ≤ length r) × (first (cond (asks_key r) key_tests_in load_tests_in) ≡ 0)
    unfolding record_tests
    passes =
        let p = first_zero torn _ (λ e. omega arith) accepted in
        (ltb-false (length r) replay_size p.0, (first_zero unknown_kind _ (λ e. omega arith) p.1).1)

    pub whole : replay_size ≤ length r
    whole = passes.0

    pub key_passes : asks_key r ≡ true → first key_tests_in ≡ 0
    key_passes e = rw e at passes.1

    pub load_passes : asks_key r ≡ false → first load_tests_in ≡ 0
    load_passes e = rw e at passes.1

    -- then the number's test is left
    pub step_left : (last : ℕ) → first (step_tests end r last) ≡ first (spent last r ∷ [])
    step_left last = first-after (record_tests end r) (spent last r ∷ []) tests_numbered accepted

  -- a record that is not refused passes its own tests, and a number is left for it
  pub step_passed : (last : ℕ) → first (step_tests end r last) ≡ 0 → (first (record_tests end r) ≡ 0) × ((spent last r).fails ≡ false)
  step_passed last z =
      let own = first-front (record_tests end r) (spent last r ∷ []) tests_numbered z in
      (own, (first_zero (spent last r) [] (λ e. omega arith) (sym (step_left own last) ∙ z)).0)

  pub number-left : (last : ℕ) → asks_key r ≡ false → first (step_tests end r last) ≡ 0 → last ≤ 65534
  number-left last k z = ltb-false 65534 last (rw k at (step_passed last z).1)

  -- what is answered and left then is the record's outcome
  module _ (src : List ℕ) (m : Carried) (passed : first (step_tests end r m.last) ≡ 0) where
    pub key_done : (count : ℕ) → asks_key r ≡ true → count ≡ kept_count (tile_in r) (mode_in r) (lane_in r) m.bank
        → record { refusal = 0; numbers = count ∷ m.last ∷ []; buffers = lent_of m } ≡ outcome end src r m
    unfolding outcome tested call_or settle count_of left
    key_done count k e = rw (passed, k, e)

    pub load_done : (bank' map' reasons' : List ℕ) (count : ℕ) → asks_key r ≡ false → count ≡ length (stores_in r)
        → bank' ≡ stored src (stores_in r) m.bank
        → map' ≡ written (following m.last) (stores_in r) m.map
        → reasons' ≡ reasoned (reason_left ordinary) (stores_in r) m.reasons
        → record { refusal = 0; numbers = count ∷ following m.last ∷ []; buffers = bank' ∷ map' ∷ reasons' ∷ [] } ≡ outcome end src r m
    unfolding outcome tested call_or settle count_of left
    load_done bank' map' reasons' count k e f g h = rw (passed, k, e, f, g, h)

-- The call for one record is the record's outcome, where no test of the call fails.
module _ (m : Carried) (r : List ℕ) (end : ℕ) (part : List ℕ) (z : first (replay_tests m r end part) ≡ 0) where
  pub own_passed : first (step_tests end r m.last) ≡ 0
  own_passed =
      let rest = short_part part r ∷ spent m.last r ∷ [] in
      let passed = (lent_passed m.bank m.map m.reasons (own_tests end r part m.last) z).1 in
      let own = first-front (record_tests end r) rest (tests_numbered end r) passed in
      let after = sym (first-after (record_tests end r) rest (tests_numbered end r) own) ∙ passed in
      step_left end r own m.last ∙ (first_zero (short_part part r) (spent m.last r ∷ []) (λ e. omega arith) after).1

  pub call-outcome : outcome end (part_of r part) r m ≡ replay_call m r end part
  unfolding outcome replay_call tested call_or
  call-outcome =
      ap (λ n. settle n (count_of r m.bank ∷ last_of r m.last ∷ []) (0 ∷ m.last ∷ []) (left (part_of r part) r m) (lent_of m))
      (own_passed ∙ sym z)
