-- Two answers that the contract of a public function allows are the same, and so is what they leave in the lent buffers.
use mathlib.Core.Path.{◌≡◌}
use Rattle.rules.proofs.Refused.{determined}
use Rattle.rdp.proofs.Determined.{sampling_determined, tile_determined}
use Rattle.tile_sampling.proofs.sampling.TileSampling.from_tile.Reads as from_tile
use Rattle.tile_sampling.proofs.sampling.TileSampling.allocation_extent.Reads as allocation_extent
use Rattle.tile_sampling.proofs.sampling.sampling.Reads as sampling
use Rattle.tile_sampling.proofs.visible.visible.Reads as visible

pub from_tile_one : (w : _) (a : _) (r s : _) (e f : _) → from_tile.Post w a r e → from_tile.Post w a s f → r ≡ s
from_tile_one w a r s e f p q =
    λ i. record {
      lookup = determined p.0 q.0 i;
      width = determined p.1.0 q.1.0 i;
      height = determined p.1.1 q.1.1 i;
    }

pub allocation_extent_one : (w : _) (a : _) (r s : _) (e f : _) → allocation_extent.Post w a r e → allocation_extent.Post w a s f
    → r ≡ s
allocation_extent_one w a r s e f p q = λ i. record { width = determined p.0 q.0 i; height = determined p.1 q.1 i }

pub sampling_one : (w : _) (a : _) (r s : _) (e f : _) → sampling.Post w a r e → sampling.Post w a s f → r ≡ s
sampling_one w a r s e f p q = sampling_determined _ r s p q

pub visible-one : (w : _) (a : _) (r s : _) (e f : _) → visible.Post w a r e → visible.Post w a s f → r ≡ s
visible-one w a r s e f p q = tile_determined _ r s p q
