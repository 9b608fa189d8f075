-- Two answers that the contract of a public function allows are the same, and so is what they leave in the lent buffers.
use mathlib.Core.Path.{◌≡◌}
use Rattle.rules.proofs.Refused.{determined}
use Rattle.rdp.proofs.Determined.{tested_determined}
use Rattle.rdp.proofs.refusal.Refusal.number.Reads as number
use Rattle.rdp.proofs.refusal.refuse.Reads as refuse
use Rattle.rdp.proofs.tile.TileDescriptor.load_fields_outside.Reads as load_fields_outside
use Rattle.rdp.proofs.tile.TileDescriptor.outside.Reads as outside
use Rattle.rdp.proofs.tile.TileDescriptor.column.Reads as column
use Rattle.rdp.proofs.tile.TileDescriptor.row_start.Reads as row_start
use Rattle.rdp.proofs.tile.sides_outside.Reads as sides_outside
use Rattle.rdp.proofs.tile.mode_outside.Reads as mode_outside
use Rattle.rdp.proofs.tile.lane_outside.Reads as lane_outside
use Rattle.rdp.proofs.tile.check_tile_and_mode.Reads as check_tile_and_mode
use Rattle.rdp.proofs.units.WordAddr.bytes.Reads as word_addr_bytes
use Rattle.rdp.proofs.units.WordAddr.row.Reads as row
use Rattle.rdp.proofs.units.LineWords.bytes.Reads as line_words_bytes
use Rattle.rdp.proofs.units.swap_odd_line.Reads as swap_odd_line

pub number_one : (w : _) (a : _) (r s : _) (e f : _) → number.Post w a r e → number.Post w a s f → r ≡ s
number_one w a r s e f p q = determined p q

pub refuse_one : (w : _) (a : _) (r s : _) (e f : _) → refuse.Post w a r e → refuse.Post w a s f → r ≡ s
refuse_one w a r s e f p q = tested_determined _ r s p q

pub load_fields_outside-one : (w : _) (a : _) (r s : _) (e f : _) → load_fields_outside.Post w a r e → load_fields_outside.Post w a s f
    → r ≡ s
load_fields_outside-one w a r s e f p q = determined p q

pub outside_one : (w : _) (a : _) (r s : _) (e f : _) → outside.Post w a r e → outside.Post w a s f → r ≡ s
outside_one w a r s e f p q = determined p q

pub column-one : (w : _) (a : _) (r s : _) (e f : _) → column.Post w a r e → column.Post w a s f → r ≡ s
column-one w a r s e f p q = determined p q

pub row_start-one : (w : _) (a : _) (r s : _) (e f : _) → row_start.Post w a r e → row_start.Post w a s f → r ≡ s
row_start-one w a r s e f p q = determined p q

pub sides_outside-one : (w : _) (a : _) (r s : _) (e f : _) → sides_outside.Post w a r e → sides_outside.Post w a s f → r ≡ s
sides_outside-one w a r s e f p q = determined p q

pub mode_outside-one : (w : _) (a : _) (r s : _) (e f : _) → mode_outside.Post w a r e → mode_outside.Post w a s f → r ≡ s
mode_outside-one w a r s e f p q = determined p q

pub lane_outside-one : (w : _) (a : _) (r s : _) (e f : _) → lane_outside.Post w a r e → lane_outside.Post w a s f → r ≡ s
lane_outside-one w a r s e f p q = determined p q

pub check_tile_and_mode_one : (w : _) (a : _) (r s : _) (e f : _) → check_tile_and_mode.Post w a r e
    → check_tile_and_mode.Post w a s f → r ≡ s
check_tile_and_mode_one w a r s e f p q = tested_determined _ r s p q

pub word_addr_bytes_one : (w : _) (a : _) (r s : _) (e f : _) → word_addr_bytes.Post w a r e → word_addr_bytes.Post w a s f → r ≡ s
word_addr_bytes_one w a r s e f p q = λ i. record { 0 = determined p q i }

pub row_one : (w : _) (a : _) (r s : _) (e f : _) → row.Post w a r e → row.Post w a s f → r ≡ s
row_one w a r s e f p q = λ i. record { 0 = determined p q i }

pub line_words_bytes_one : (w : _) (a : _) (r s : _) (e f : _) → line_words_bytes.Post w a r e → line_words_bytes.Post w a s f → r ≡ s
line_words_bytes_one w a r s e f p q = λ i. record { 0 = determined p q i }

pub swap_odd_line_one : (w : _) (a : _) (r s : _) (e f : _) → swap_odd_line.Post w a r e → swap_odd_line.Post w a s f → r ≡ s
swap_odd_line_one w a r s e f p q = determined p q
