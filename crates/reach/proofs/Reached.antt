-- Which list is the reach.
use mathlib.Core.Path.{◌≡◌}
use mathlib.Core.Bool.{true, false}
use Prim.Native.Nat.{ℕ}
use Rattle.rules.specs.Tile.{Tile}
use Rattle.rules.specs.Sampling.{flag}
use Rattle.rules.specs.Reach.{reach_plain, reach_whole, reach}

module _ (t : Tile) (mode : ℕ) where
  pub reach-whole : flag t mode ≡ true → reach t mode ≡ reach_whole t mode
  unfolding reach
  reach-whole h = rw (h, reach)

  pub reach-plain : flag t mode ≡ false → reach t mode ≡ reach_plain t mode
  unfolding reach
  reach-plain h = rw (h, reach)
