-- Two answers that the contract of a public function allows are the same, and so is what they leave in the lent buffers.
use mathlib.Core.Path.{◌≡◌}
use mathlib.Core.List.{[], ◌∷◌}
use Rattle.rdp.proofs.Determined.{replay_determined, run_determined}
use Rattle.replaying.proofs.run.replay_run.Reads as replay_run
use Rattle.replaying.proofs.single.replay_record.Reads as replay_record

pub replay_record-one : (w : _) (a : _) (r s : _) (e f : _) → replay_record.Post w a r e → replay_record.Post w a s f
    → (r ≡ s) × (e.0.now ∷ e.1.0.now ∷ e.1.1.0.now ∷ [] ≡ f.0.now ∷ f.1.0.now ∷ f.1.1.0.now ∷ [])
replay_record-one w a r s e f p q = replay_determined _ _ r s _ _ p q

pub replay_run_one : (w : _) (a : _) (r s : _) (e f : _) → replay_run.Post w a r e → replay_run.Post w a s f
    → (r ≡ s)
    × (e.0.now ∷ e.1.0.now ∷ e.1.1.0.now ∷ e.1.1.1.1.1.1.1.0.now ∷ []
    ≡ f.0.now ∷ f.1.0.now ∷ f.1.1.0.now ∷ f.1.1.1.1.1.1.1.0.now ∷ [])
replay_run_one w a r s e f p q = run_determined _ _ r s _ _ p q
