-- Two answers that the contract of a public function allows are the same, and so is what they leave in the lent buffers.
use mathlib.Core.Path.{◌≡◌}
use Rattle.rules.proofs.Refused.{determined}
use Rattle.marks.proofs.number.number_byte.Reads as number_byte

pub number_byte_one : (w : _) (a : _) (r s : _) (e f : _) → number_byte.Post w a r e → number_byte.Post w a s f → r ≡ s
number_byte_one w a r s e f p q = determined p q
