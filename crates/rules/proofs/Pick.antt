-- The two calls for lookup tables, document 02's item 9: "have the replay pick between them as the old call did". The pick is the old
-- call on every input, refusals among them.
use mathlib.Core.Path.{◌≡◌, refl}
use mathlib.Core.Bool.{Bool, true, false, cond, ◌&&◌, ◌||◌}
use mathlib.Core.List.{List}
use Prim.Native.Nat.{ℕ}
use native.Mathlib.Omega.{arith}
use lib.Dec.{eqb, ltb}
use borrow.Author.Tests.{eqb-true, ltb-true, ne_eqb}
use Rattle.rules.specs.Tile.{Tile}
use Rattle.rules.specs.Load.{LoadTile, load_tile, hardware_stores, row_stores, by_hardware, tlut_stores, Reason}
use Rattle.rules.specs.Refusal.{Outcome}
use Rattle.rules.specs.Calls.{tlut_outside, hardware_outside, load_tests, loaded, tlut_hardware_call, tlut_rows_call}
use Rattle.rules.proofs.Ranges.{both}

-- where the hardware's path is picked, its narrower ranges leave the old ones
pub same_ranges : (image count rows stride : ℕ) → by_hardware image rows ≡ true
    → hardware_outside image count rows stride ≡ tlut_outside count rows stride
same_ranges image count rows stride h =
    let p = both (eqb rows 1) (ltb 0 image) h in
    let one : rows ≡ 1 = eqb-true rows 1 p.0 in
    let some : image ≡ 0 → ⊥ = λ z. omega (arith, ltb-true 0 image p.1) in
    rw (one, ne_eqb image 0 some) (go (ltb 1024 count))
  where
    go : (b : Bool) → (b || false || ltb 65535 stride) ≡ (b || false || false || ltb 65535 stride)
    go true = refl
    go false = refl

-- which stores are picked
pub hardware_is : (t : LoadTile) (image count rows stride : ℕ) → by_hardware image rows ≡ true
    → hardware_stores t image count ≡ tlut_stores t image count rows stride
unfolding tlut_stores
hardware_is t image count rows stride e = rw e

pub rows_are : (t : LoadTile) (image count rows stride : ℕ) → by_hardware image rows ≡ false
    → row_stores t count rows stride ≡ tlut_stores t image count rows stride
unfolding tlut_stores
rows_are t image count rows stride e = rw e

module _ (bank map reasons src : List ℕ) (t : Tile) (image count rows stride : ℕ) (why : Reason) (last : ℕ) where
  -- the old call, by document 01's rule
  abbrev pub old_call : Outcome
  old_call =
      loaded (load_tests bank map reasons src t image (tlut_outside count rows stride) why last)
      (tlut_stores (load_tile t) image count rows stride) bank map reasons src why last

  -- the pick of the two
  abbrev pub picked_call : Outcome
  picked_call =
      cond (by_hardware image rows) (tlut_hardware_call bank map reasons src t image count rows stride why last)
      (tlut_rows_call bank map reasons src t image count rows stride why last)

  pub pick_is_old : picked_call ≡ old_call
  unfolding tlut_hardware_call tlut_rows_call
  pick_is_old = go (by_hardware image rows) refl
    where
      go : (b : Bool) → by_hardware image rows ≡ b
          → cond b (tlut_hardware_call bank map reasons src t image count rows stride why last)
          (tlut_rows_call bank map reasons src t image count rows stride why last)
          ≡ old_call
      go true e = rw (same_ranges image count rows stride e, hardware_is (load_tile t) image count rows stride e)
      go false e = rw (rows_are (load_tile t) image count rows stride e)
