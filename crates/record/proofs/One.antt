-- Two answers that the contract of a public function allows are the same.
use mathlib.Core.Path.{◌≡◌}
use Rattle.rules.proofs.Refused.{determined}
use Rattle.rdp.proofs.Determined.{tile_determined}
use Rattle.record.proofs.fields.record_mode.Reads as record_mode
use Rattle.record.proofs.fields.record_tile.Reads as record_tile
use Rattle.record.proofs.numbers.byte_at.Reads as byte_at
use Rattle.record.proofs.numbers.four_at.Reads as four_at
use Rattle.record.proofs.numbers.two_at.Reads as two_at

pub record_mode-one : (w : _) (a : _) (r s : _) (e f : _) → record_mode.Post w a r e → record_mode.Post w a s f → r ≡ s
record_mode-one w a r s e f p q = determined p q

pub record_tile-one : (w : _) (a : _) (r s : _) (e f : _) → record_tile.Post w a r e → record_tile.Post w a s f → r ≡ s
record_tile-one w a r s e f p q = tile_determined _ r s p q

pub byte_at_one : (w : _) (a : _) (r s : _) (e f : _) → byte_at.Post w a r e → byte_at.Post w a s f → r ≡ s
byte_at_one w a r s e f p q = determined p q

pub four_at_one : (w : _) (a : _) (r s : _) (e f : _) → four_at.Post w a r e → four_at.Post w a s f → r ≡ s
four_at_one w a r s e f p q = determined p q

pub two_at_one : (w : _) (a : _) (r s : _) (e f : _) → two_at.Post w a r e → two_at.Post w a s f → r ≡ s
two_at_one w a r s e f p q = determined p q
