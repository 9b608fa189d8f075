-- Two answers that the contract of a public function allows are the same, and so is what they leave in the lent buffers.
use mathlib.Core.Path.{◌≡◌}
use mathlib.Core.List.{[], ◌∷◌}
use Rattle.rdp.proofs.Determined.{refusal_determined, yes_determined, reason_determined}
use Rattle.reach.proofs.has_load.tile_has_load.Reads as tile_has_load
use Rattle.reach.proofs.lane.palette_nonreplicated_bytes.Reads as palette_nonreplicated_bytes
use Rattle.reach.proofs.reach.reach.Reads as reach
use Rattle.reach.proofs.rejection.rejection.Reads as rejection

pub tile-has_load-one : (w : _) (a : _) (r s : _) (e f : _) → tile_has_load.Post w a r e → tile_has_load.Post w a s f → r ≡ s
tile-has_load-one w a r s e f p q = yes_determined _ r s p q

pub palette_nonreplicated_bytes_one : (w : _) (a : _) (r s : _) (e f : _)
    → palette_nonreplicated_bytes.Post w a r e → palette_nonreplicated_bytes.Post w a s f
    → (r ≡ s) × (e.1.0.now ∷ [] ≡ f.1.0.now ∷ [])
palette_nonreplicated_bytes_one w a r s e f p q = refusal_determined _ r s _ _ p q

pub reach-one : (w : _) (a : _) (r s : _) (e f : _) → reach.Post w a r e → reach.Post w a s f
    → (r ≡ s) × (e.1.1.0.now ∷ [] ≡ f.1.1.0.now ∷ [])
reach-one w a r s e f p q = refusal_determined _ r s _ _ p q

pub rejection-one : (w : _) (a : _) (r s : _) (e f : _) → rejection.Post w a r e → rejection.Post w a s f → r ≡ s
rejection-one w a r s e f p q = reason_determined _ r s p q
