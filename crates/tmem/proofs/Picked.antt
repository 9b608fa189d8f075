-- The pick of the two loads of a lookup table is document 01's load: the same ranges, and the same stores.
use mathlib.Core.Path.{◌≡◌, refl}
use mathlib.Core.Bool.{Bool, true, false, cond}
use Prim.Native.Nat.{ℕ}
use Rattle.rules.specs.Load.{LoadTile, by_hardware, tlut_stores}
use Rattle.rules.specs.Calls.{tlut_outside}
use Rattle.rules.proofs.Pick.{same_ranges, hardware_is, rows_are}
use Rattle.tmem.specs.Asked.{asked_outside, asked_stores, picked}
use Rattle.tmem.specs.declared.asked.Asked.{Asked}
use Rattle.tmem.specs.declared.asked.Asked.TheVariants.{TlutHardware, TlutRows}

abbrev of : ℕ → ℕ → ℕ → Bool → Asked
of count rows stride b = cond b (TlutHardware count rows stride) (TlutRows count rows stride)

pub picked-says : (t : LoadTile) (image count rows stride : ℕ)
    → (asked_outside image (picked image count rows stride) ≡ tlut_outside count rows stride)
    × (asked_stores t image (picked image count rows stride) ≡ tlut_stores t image count rows stride)
picked-says t image count rows stride = go (by_hardware image rows) refl
  where
    go : (b : Bool) → by_hardware image rows ≡ b
        → (asked_outside image (of count rows stride b) ≡ tlut_outside count rows stride)
        × (asked_stores t image (of count rows stride b) ≡ tlut_stores t image count rows stride)
    go true e = (same_ranges image count rows stride e, hardware_is t image count rows stride e)
    go false e = (refl, rows_are t image count rows stride e)
