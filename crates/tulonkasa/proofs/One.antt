-- Two answers that the contract of a public function allows are the same, and so is what they leave in the lent buffers.
use mathlib.Core.Path.{◌≡◌}
use mathlib.Core.List.{[], ◌∷◌}
use Rattle.rules.proofs.Refused.{determined}
use Rattle.tulonkasa.proofs.Determined.{answered_determined, load_determined, size_determined, refusal_determined, sampling_determined}
use Rattle.tulonkasa.proofs.Determined.{check_determined, reason_determined, replay_determined, split_determined, yes_determined}
use Rattle.tulonkasa.proofs.files.tk_write_pam.Reads as tk_write_pam
use Rattle.tulonkasa.proofs.files.tk_read_pam.Reads as tk_read_pam
use Rattle.tulonkasa.proofs.keys.tk_key.Reads as tk_key
use Rattle.tulonkasa.proofs.keys.tk_check_key.Reads as tk_check_key
use Rattle.tulonkasa.proofs.loads.tk_load_block.Reads as tk_load_block
use Rattle.tulonkasa.proofs.loads.tk_load_tile.Reads as tk_load_tile
use Rattle.tulonkasa.proofs.loads.tk_load_tlut_hardware.Reads as tk_load_tlut_hardware
use Rattle.tulonkasa.proofs.loads.tk_load_tlut_rows.Reads as tk_load_tlut_rows
use Rattle.tulonkasa.proofs.maps.tk_reach.Reads as tk_reach
use Rattle.tulonkasa.proofs.maps.tk_tile_has_load.Reads as tk_tile_has_load
use Rattle.tulonkasa.proofs.maps.tk_rejection.Reads as tk_rejection
use Rattle.tulonkasa.proofs.maps.tk_palette_nonreplicated.Reads as tk_palette_nonreplicated
use Rattle.tulonkasa.proofs.pictures.tk_decode_linear.Reads as tk_decode_linear
use Rattle.tulonkasa.proofs.pictures.tk_sample_tile.Reads as tk_sample_tile
use Rattle.tulonkasa.proofs.pictures.tk_sample_tile_observed.Reads as tk_sample_tile_observed
use Rattle.tulonkasa.proofs.pictures.tk_sampling_lookup.Reads as tk_sampling_lookup
use Rattle.tulonkasa.proofs.pictures.tk_sampling_lookup_observed.Reads as tk_sampling_lookup_observed
use Rattle.tulonkasa.proofs.rejects.tk_reject_block.Reads as tk_reject_block
use Rattle.tulonkasa.proofs.rejects.tk_reject_tile.Reads as tk_reject_tile
use Rattle.tulonkasa.proofs.rejects.tk_reject_tlut_hardware.Reads as tk_reject_tlut_hardware
use Rattle.tulonkasa.proofs.rejects.tk_reject_tlut_rows.Reads as tk_reject_tlut_rows
use Rattle.tulonkasa.proofs.replay.tk_replay_record.Reads as tk_replay_record
use Rattle.tulonkasa.proofs.sampling.tk_sampling.Reads as tk_sampling
use Rattle.tulonkasa.proofs.splits.tk_split.Reads as tk_split
use Rattle.tulonkasa.proofs.version.tk_version.Reads as tk_version

pub tk_write_pam_one : (w : _) (a : _) (r s : _) (e f : _) → tk_write_pam.Post w a r e → tk_write_pam.Post w a s f
    → (r ≡ s) × (e.1.1.1.0.now ∷ [] ≡ f.1.1.1.0.now ∷ [])
tk_write_pam_one w a r s e f p q = answered_determined _ r s _ _ p q

pub tk_read_pam_one : (w : _) (a : _) (r s : _) (e f : _) → tk_read_pam.Post w a r e → tk_read_pam.Post w a s f
    → (r ≡ s) × (e.1.0.now ∷ [] ≡ f.1.0.now ∷ [])
tk_read_pam_one w a r s e f p q = size_determined _ r s _ _ p q

pub tk_key_one : (w : _) (a : _) (r s : _) (e f : _) → tk_key.Post w a r e → tk_key.Post w a s f
    → (r ≡ s) × (e.1.1.1.1.1.1.1.1.1.1.1.1.1.1.0.now ∷ [] ≡ f.1.1.1.1.1.1.1.1.1.1.1.1.1.1.0.now ∷ [])
tk_key_one w a r s e f p q = answered_determined _ r s _ _ p q

pub tk_check_key_one : (w : _) (a : _) (r s : _) (e f : _) → tk_check_key.Post w a r e → tk_check_key.Post w a s f → r ≡ s
tk_check_key_one w a r s e f p q = check_determined _ r s p q

pub tk_load_block_one : (w : _) (a : _) (r s : _) (e f : _) → tk_load_block.Post w a r e → tk_load_block.Post w a s f
    → (r ≡ s) × (e.0.now ∷ e.1.0.now ∷ e.1.1.0.now ∷ [] ≡ f.0.now ∷ f.1.0.now ∷ f.1.1.0.now ∷ [])
tk_load_block_one w a r s e f p q = load_determined _ r s _ _ p q

pub tk_load_tile_one : (w : _) (a : _) (r s : _) (e f : _) → tk_load_tile.Post w a r e → tk_load_tile.Post w a s f
    → (r ≡ s) × (e.0.now ∷ e.1.0.now ∷ e.1.1.0.now ∷ [] ≡ f.0.now ∷ f.1.0.now ∷ f.1.1.0.now ∷ [])
tk_load_tile_one w a r s e f p q = load_determined _ r s _ _ p q

pub tk_load_tlut_hardware_one : (w : _) (a : _) (r s : _) (e f : _) → tk_load_tlut_hardware.Post w a r e
    → tk_load_tlut_hardware.Post w a s f
    → (r ≡ s) × (e.0.now ∷ e.1.0.now ∷ e.1.1.0.now ∷ [] ≡ f.0.now ∷ f.1.0.now ∷ f.1.1.0.now ∷ [])
tk_load_tlut_hardware_one w a r s e f p q = load_determined _ r s _ _ p q

pub tk_load_tlut_rows_one : (w : _) (a : _) (r s : _) (e f : _) → tk_load_tlut_rows.Post w a r e → tk_load_tlut_rows.Post w a s f
    → (r ≡ s) × (e.0.now ∷ e.1.0.now ∷ e.1.1.0.now ∷ [] ≡ f.0.now ∷ f.1.0.now ∷ f.1.1.0.now ∷ [])
tk_load_tlut_rows_one w a r s e f p q = load_determined _ r s _ _ p q

pub tk_reach_one : (w : _) (a : _) (r s : _) (e f : _) → tk_reach.Post w a r e → tk_reach.Post w a s f
    → (r ≡ s) × (e.1.1.1.1.1.1.1.1.1.1.1.1.0.now ∷ [] ≡ f.1.1.1.1.1.1.1.1.1.1.1.1.0.now ∷ [])
tk_reach_one w a r s e f p q = refusal_determined _ r s _ _ p q

pub tk_tile_has_load_one : (w : _) (a : _) (r s : _) (e f : _) → tk_tile_has_load.Post w a r e → tk_tile_has_load.Post w a s f → r ≡ s
tk_tile_has_load_one w a r s e f p q = yes_determined _ r s p q

pub tk_rejection_one : (w : _) (a : _) (r s : _) (e f : _) → tk_rejection.Post w a r e → tk_rejection.Post w a s f → r ≡ s
tk_rejection_one w a r s e f p q = reason_determined _ r s p q

pub tk_palette_nonreplicated_one : (w : _) (a : _) (r s : _) (e f : _) → tk_palette_nonreplicated.Post w a r e
    → tk_palette_nonreplicated.Post w a s f
    → (r ≡ s) × (e.1.0.now ∷ [] ≡ f.1.0.now ∷ [])
tk_palette_nonreplicated_one w a r s e f p q = refusal_determined _ r s _ _ p q

pub tk_decode_linear_one : (w : _) (a : _) (r s : _) (e f : _) → tk_decode_linear.Post w a r e → tk_decode_linear.Post w a s f
    → (r ≡ s) × (e.1.1.1.1.1.1.1.0.now ∷ [] ≡ f.1.1.1.1.1.1.1.0.now ∷ [])
tk_decode_linear_one w a r s e f p q = answered_determined _ r s _ _ p q

pub tk_sample_tile_one : (w : _) (a : _) (r s : _) (e f : _) → tk_sample_tile.Post w a r e → tk_sample_tile.Post w a s f
    → (r ≡ s) × (e.1.1.1.1.1.1.1.1.1.1.1.1.1.1.0.now ∷ [] ≡ f.1.1.1.1.1.1.1.1.1.1.1.1.1.1.0.now ∷ [])
tk_sample_tile_one w a r s e f p q = answered_determined _ r s _ _ p q

pub tk_sample_tile_observed_one : (w : _) (a : _) (r s : _) (e f : _) → tk_sample_tile_observed.Post w a r e
    → tk_sample_tile_observed.Post w a s f
    → (r ≡ s)
    × (e.1.1.1.1.1.1.1.1.1.1.1.1.1.1.0.now ∷ e.1.1.1.1.1.1.1.1.1.1.1.1.1.1.1.0.now ∷ []
    ≡ f.1.1.1.1.1.1.1.1.1.1.1.1.1.1.0.now ∷ f.1.1.1.1.1.1.1.1.1.1.1.1.1.1.1.0.now ∷ [])
tk_sample_tile_observed_one w a r s e f p q = answered_determined _ r s _ _ p q

pub tk_sampling_lookup_one : (w : _) (a : _) (r s : _) (e f : _) → tk_sampling_lookup.Post w a r e → tk_sampling_lookup.Post w a s f
    → (r ≡ s) × (e.1.1.1.1.1.1.1.1.1.1.1.1.1.1.0.now ∷ [] ≡ f.1.1.1.1.1.1.1.1.1.1.1.1.1.1.0.now ∷ [])
tk_sampling_lookup_one w a r s e f p q = answered_determined _ r s _ _ p q

pub tk_sampling_lookup_observed_one : (w : _) (a : _) (r s : _) (e f : _) → tk_sampling_lookup_observed.Post w a r e
    → tk_sampling_lookup_observed.Post w a s f
    → (r ≡ s)
    × (e.1.1.1.1.1.1.1.1.1.1.1.1.1.1.0.now ∷ e.1.1.1.1.1.1.1.1.1.1.1.1.1.1.1.0.now ∷ []
    ≡ f.1.1.1.1.1.1.1.1.1.1.1.1.1.1.0.now ∷ f.1.1.1.1.1.1.1.1.1.1.1.1.1.1.1.0.now ∷ [])
tk_sampling_lookup_observed_one w a r s e f p q = answered_determined _ r s _ _ p q

pub tk_sampling_one : (w : _) (a : _) (r s : _) (e f : _) → tk_sampling.Post w a r e → tk_sampling.Post w a s f → r ≡ s
tk_sampling_one w a r s e f p q = sampling_determined _ r s p q

pub tk_reject_block_one : (w : _) (a : _) (r s : _) (e f : _) → tk_reject_block.Post w a r e → tk_reject_block.Post w a s f
    → (r ≡ s) × (e.0.now ∷ e.1.0.now ∷ e.1.1.0.now ∷ [] ≡ f.0.now ∷ f.1.0.now ∷ f.1.1.0.now ∷ [])
tk_reject_block_one w a r s e f p q = load_determined _ r s _ _ p q

pub tk_reject_tile_one : (w : _) (a : _) (r s : _) (e f : _) → tk_reject_tile.Post w a r e → tk_reject_tile.Post w a s f
    → (r ≡ s) × (e.0.now ∷ e.1.0.now ∷ e.1.1.0.now ∷ [] ≡ f.0.now ∷ f.1.0.now ∷ f.1.1.0.now ∷ [])
tk_reject_tile_one w a r s e f p q = load_determined _ r s _ _ p q

pub tk_reject_tlut_hardware_one : (w : _) (a : _) (r s : _) (e f : _) → tk_reject_tlut_hardware.Post w a r e
    → tk_reject_tlut_hardware.Post w a s f
    → (r ≡ s) × (e.0.now ∷ e.1.0.now ∷ e.1.1.0.now ∷ [] ≡ f.0.now ∷ f.1.0.now ∷ f.1.1.0.now ∷ [])
tk_reject_tlut_hardware_one w a r s e f p q = load_determined _ r s _ _ p q

pub tk_reject_tlut_rows_one : (w : _) (a : _) (r s : _) (e f : _) → tk_reject_tlut_rows.Post w a r e → tk_reject_tlut_rows.Post w a s f
    → (r ≡ s) × (e.0.now ∷ e.1.0.now ∷ e.1.1.0.now ∷ [] ≡ f.0.now ∷ f.1.0.now ∷ f.1.1.0.now ∷ [])
tk_reject_tlut_rows_one w a r s e f p q = load_determined _ r s _ _ p q

pub tk_replay_record_one : (w : _) (a : _) (r s : _) (e f : _) → tk_replay_record.Post w a r e → tk_replay_record.Post w a s f
    → (r ≡ s) × (e.0.now ∷ e.1.0.now ∷ e.1.1.0.now ∷ [] ≡ f.0.now ∷ f.1.0.now ∷ f.1.1.0.now ∷ [])
tk_replay_record_one w a r s e f p q = replay_determined _ r s _ _ p q

pub tk_split_one : (w : _) (a : _) (r s : _) (e f : _) → tk_split.Post w a r e → tk_split.Post w a s f
    → (r ≡ s) × (e.1.1.0.now ∷ [] ≡ f.1.1.0.now ∷ [])
tk_split_one w a r s e f p q = split_determined _ r s _ _ p q

pub tk_version_one : (w : _) (a : _) (r s : _) (e f : _) → tk_version.Post w a r e → tk_version.Post w a s f → r ≡ s
tk_version_one w a r s e f p q = determined p q
