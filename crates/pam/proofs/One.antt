-- Two answers that the contract of a public function allows are the same, and so is what they leave in the lent buffers.
use mathlib.Core.Path.{◌≡◌}
use mathlib.Core.List.{[], ◌∷◌}
use Rattle.rdp.proofs.Determined.{answered_determined, size_determined}
use Rattle.pam.proofs.write.write_pam.Reads as write_pam
use Rattle.pam.proofs.read.read_pam.Reads as read_pam

pub write_pam_one : (w : _) (a : _) (r s : _) (e f : _) → write_pam.Post w a r e → write_pam.Post w a s f
    → (r ≡ s) × (e.1.1.1.0.now ∷ [] ≡ f.1.1.1.0.now ∷ [])
write_pam_one w a r s e f p q = answered_determined _ r s _ _ p q

pub read_pam_one : (w : _) (a : _) (r s : _) (e f : _) → read_pam.Post w a r e → read_pam.Post w a s f
    → (r ≡ s) × (e.1.0.now ∷ [] ≡ f.1.0.now ∷ [])
read_pam_one w a r s e f p q = size_determined _ r s _ _ p q
