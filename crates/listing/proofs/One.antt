-- Two answers that the contract of a public function allows are the same, and so is what they leave in the lent buffers.
use mathlib.Core.Path.{◌≡◌}
use mathlib.Core.List.{[], ◌∷◌}
use Rattle.rdp.proofs.Determined.{text_determined}
use Rattle.listing.proofs.list.list.Reads as list

pub list_one : (w : _) (a : _) (r s : _) (e f : _) → list.Post w a r e → list.Post w a s f
    → (r ≡ s) × (e.1.0.now ∷ [] ≡ f.1.0.now ∷ [])
list_one w a r s e f p q = text_determined _ r s _ _ p q
