-- What holds of a tile, mode and lane that a call which decodes does not refuse.
use mathlib.Core.Path.{◌≡◌, refl}
use mathlib.Core.Bool.{true}
use Prim.Native.Nat.{ℕ, ◌≤◌}
use borrow.Author.Tests.{ltb-false, not-false}
use Rattle.rules.specs.Tile.{Tile, InRange}
use Rattle.rules.specs.Texdec.{accepted}
use Rattle.rules.specs.Refusal.{first}
use Rattle.rules.specs.Calls.{pair_tests}
use Rattle.rules.proofs.Ranges.{in_range}
use Rattle.rules.proofs.Refused.{Passed, numbered, passed}

pub record Allowed (t : Tile) (mode lane : ℕ) : Type 0 where
  pub inside : InRange t
  pub lane_le : lane ≤ 3
  pub pair : accepted mode t.fmt t.siz ≡ true

pub allowed : (t : Tile) (mode lane : ℕ) → first (pair_tests t mode lane) ≡ 0 → Allowed t mode lane
unfolding Passed
allowed t mode lane h =
    let p = passed (pair_tests t mode lane) (numbered (pair_tests t mode lane) refl) h in
    record {
      inside = in_range t p.0;
      lane_le = ltb-false 3 lane p.1.1.0;
      pair = not-false _ p.1.1.1.0;
    }
