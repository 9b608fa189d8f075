-- Two answers that the contract of a public function allows are the same, and so is what they leave in the lent buffers.
use mathlib.Core.Path.{◌≡◌}
use mathlib.Core.List.{[], ◌∷◌}
use Rattle.rdp.proofs.Determined.{answered_determined}
use Rattle.decoder.proofs.linear.decode_linear.Reads as decode_linear
use Rattle.decoder.proofs.picture.sample_tile_lane.Reads as sample_tile_lane
use Rattle.decoder.proofs.picture.sample_tile_lane_observed.Reads as sample_tile_lane_observed
use Rattle.decoder.proofs.picture.sampling_lookup_lane.Reads as sampling_lookup_lane
use Rattle.decoder.proofs.picture.sampling_lookup_lane_observed.Reads as sampling_lookup_lane_observed

pub decode_linear_one : (w : _) (a : _) (r s : _) (e f : _)
    → decode_linear.Post w a r e → decode_linear.Post w a s f
    → (r ≡ s) × (e.1.1.1.0.now ∷ [] ≡ f.1.1.1.0.now ∷ [])
decode_linear_one w a r s e f p q = answered_determined _ r s _ _ p q

pub sample_tile_lane_one : (w : _) (a : _) (r s : _) (e f : _)
    → sample_tile_lane.Post w a r e → sample_tile_lane.Post w a s f
    → (r ≡ s) × (e.1.1.1.1.0.now ∷ [] ≡ f.1.1.1.1.0.now ∷ [])
sample_tile_lane_one w a r s e f p q = answered_determined _ r s _ _ p q

pub sample_tile_lane_observed_one : (w : _) (a : _) (r s : _) (e f : _)
    → sample_tile_lane_observed.Post w a r e → sample_tile_lane_observed.Post w a s f
    → (r ≡ s) × (e.1.1.1.1.0.now ∷ e.1.1.1.1.1.0.now ∷ [] ≡ f.1.1.1.1.0.now ∷ f.1.1.1.1.1.0.now ∷ [])
sample_tile_lane_observed_one w a r s e f p q = answered_determined _ r s _ _ p q

pub sampling_lookup_lane_one : (w : _) (a : _) (r s : _) (e f : _)
    → sampling_lookup_lane.Post w a r e → sampling_lookup_lane.Post w a s f
    → (r ≡ s) × (e.1.1.1.1.0.now ∷ [] ≡ f.1.1.1.1.0.now ∷ [])
sampling_lookup_lane_one w a r s e f p q = answered_determined _ r s _ _ p q

pub sampling_lookup_lane_observed_one : (w : _) (a : _) (r s : _) (e f : _)
    → sampling_lookup_lane_observed.Post w a r e → sampling_lookup_lane_observed.Post w a s f
    → (r ≡ s) × (e.1.1.1.1.0.now ∷ e.1.1.1.1.1.0.now ∷ [] ≡ f.1.1.1.1.0.now ∷ f.1.1.1.1.1.0.now ∷ [])
sampling_lookup_lane_observed_one w a r s e f p q = answered_determined _ r s _ _ p q
