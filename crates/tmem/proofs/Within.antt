-- What holds of a load that is not refused.
use mathlib.Core.Path.{◌≡◌, refl, sym}
use mathlib.Core.Bool.{Bool, false, not, ◌||◌}
use mathlib.Core.List.{List, [], ◌∷◌}
use Prim.Native.Nat.{ℕ, ◌<◌, ◌≤◌}
use native.Mathlib.Omega.{arith}
use lib.Dec.{eqb, ltb}
use borrow.Author.Tests.{ltb-false}
use Rattle.rules.specs.Tile.{Tile}
use Rattle.rules.specs.Load.{Store, following, Reason, reason_outside, reason_left}
use Rattle.rules.specs.Refusal.{Test, ◌if◌, first}
use Rattle.rules.specs.Calls.{number_spent, bad_reason, number_tests, loaded}
use Rattle.rules.specs.Calls.{block_outside, tile_load_outside, tlut_outside, hardware_outside}
use Rattle.rules.proofs.Ranges.{neither}
use Rattle.rules.proofs.Refused.{Passed, numbered, passed, done_or_is}
use Rattle.tmem.specs.declared.tally.Tally.{Tally}
use Rattle.tmem.specs.declared.memory.Label.{Label}
use Rattle.tmem.specs.Part.{CountedApart, lists}

-- what the tests of a load's numbers leave that all loads share, after a load of the number `last`
pub record Within (image : ℕ) (outside : Bool) (why : Reason) (last : ℕ) : Type 0 where
  pub number_in : following last < 65536
  pub image_in : image ≤ 3
  pub inside : outside ≡ false
  pub reason_in : reason_outside why ≡ false

abbrev pub own_tests : ℕ → Tile → ℕ → Bool → Reason → ℕ → List Test
own_tests size t image outside why last = number_tests size t image outside (bad_reason why ∷ (18 if number_spent last) ∷ [])

pub within : (size : ℕ) (t : Tile) (image : ℕ) (outside : Bool) (why : Reason) (last : ℕ)
    → 0 ≡ first (own_tests size t image outside why last)
    → Within image outside why last
unfolding Passed
within size t image outside why last h =
    let own = own_tests size t image outside why last in
    let p = passed own (numbered own refl) (sym h) in
    record {
      number_in = omega (arith, ltb-false 65534 last p.1.1.1.1.0);
      image_in = ltb-false 3 image (neither (ltb 65536 size) (ltb 3 image) p.1.0).1;
      inside = p.1.1.0;
      reason_in = p.1.1.1.0;
    }

-- What a load that is carried out then answers and leaves.
pub loaded_done : (tests : List Test) (l : List Store) (src : List ℕ) (label : Label) (why : Reason) (last : ℕ) (tally : Tally)
    {bank map reasons bank' map' reasons' : List ℕ}
    → first tests ≡ 0
    → label.number ≡ following last
    → label.reason ≡ reason_left why
    → CountedApart src l label (lists bank map reasons) (lists bank' map' reasons') tally
    → record { refusal = 0; numbers = tally.count ∷ tally.made_up ∷ following last ∷ []; buffers = bank' ∷ map' ∷ reasons' ∷ [] }
    ≡ loaded tests l bank map reasons src why last
loaded_done tests l src label why last tally z n w done =
    rw (done.tally_is, done.bank_is, done.map_is, done.reasons_is, n, w) (done_or_is tests _ _ _ _ z)

-- what each load's own test leaves
pub block_in : (dxt words : ℕ) → block_outside dxt words ≡ false → (dxt ≤ 4095) × (words ≤ 2048)
block_in dxt words h =
    let p = neither _ _ h in
    (ltb-false _ _ p.0, ltb-false _ _ p.1)

pub record TileRows (rows words stride : ℕ) : Type 0 where
  pub few_rows : rows ≤ 1024
  pub few : words ≤ 512
  pub stride_in : stride ≤ 65535

pub tile_rows_in : (rows words stride : ℕ) → tile_load_outside rows words stride ≡ false → TileRows rows words stride
tile_rows_in rows words stride h =
    let p = neither _ _ h in
    let q = neither _ _ p.0 in
    record { few_rows = ltb-false _ _ q.0; few = ltb-false _ _ q.1; stride_in = ltb-false _ _ p.1 }

pub record Rows (count rows stride : ℕ) : Type 0 where
  pub few_rows : rows ≤ 1024
  pub few : count ≤ 1024
  pub stride_in : stride ≤ 65535

pub rows_in : (count rows stride : ℕ) → tlut_outside count rows stride ≡ false → Rows count rows stride
rows_in count rows stride h =
    let p = neither _ _ h in
    let q = neither _ _ p.0 in
    let r = neither _ _ q.0 in
    record { few_rows = ltb-false _ _ q.1; few = ltb-false _ _ r.0; stride_in = ltb-false _ _ p.1 }

pub hardware_in : (image count rows stride : ℕ) → hardware_outside image count rows stride ≡ false → count ≤ 1024
hardware_in image count rows stride h =
    let p = neither (eqb image 0 || ltb 1024 count || not (eqb rows 1)) (ltb 65535 stride) h in
    let q = neither (eqb image 0 || ltb 1024 count) (not (eqb rows 1)) p.0 in
    ltb-false 1024 count (neither (eqb image 0) (ltb 1024 count) q.0).1
