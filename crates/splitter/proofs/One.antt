-- Two answers that the contract of the public function allows are the same, and so is what they leave in the lent buffer.
use mathlib.Core.Path.{◌≡◌}
use mathlib.Core.List.{[], ◌∷◌}
use Rattle.rdp.proofs.Determined.{split_determined}
use Rattle.splitter.proofs.split.split.Reads as split

pub split_one : (w : _) (a : _) (r s : _) (e f : _) → split.Post w a r e → split.Post w a s f
    → (r ≡ s) × (e.1.1.0.now ∷ [] ≡ f.1.1.0.now ∷ [])
split_one w a r s e f p q = split_determined _ r s _ _ p q
