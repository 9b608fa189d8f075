-- Two answers that the contract of a public function allows are the same, and so is what they leave in the lent buffers.
use mathlib.Core.Path.{◌≡◌}
use Rattle.rules.proofs.Refused.{determined}
use Rattle.texdec.proofs.Pictures.{same_answer}
use Rattle.texdec.proofs.entry.decode_rgba16_entry.Reads as decode_rgba16_entry
use Rattle.texdec.proofs.entry.decode_ia16_entry.Reads as decode_ia16_entry
use Rattle.texdec.proofs.entry.decode_ci16_entry.Reads as decode_ci16_entry
use Rattle.texdec.proofs.format.FormatInfo.validate.Reads as validate
use Rattle.texdec.proofs.format.FormatInfo.validate_tlut.Reads as validate_tlut
use Rattle.texdec.proofs.ia16.ia16_halves.Reads as ia16_halves
use Rattle.texdec.proofs.ia4.ia4_table.Reads as ia4_table
use Rattle.texdec.proofs.ia8.texel_bytes.Reads as texel_bytes
use Rattle.texdec.proofs.ia8.ia8_table.Reads as ia8_table
use Rattle.texdec.proofs.nibble.nibble.Reads as nibble
use Rattle.texdec.proofs.nibble.decode_i4.Reads as decode_i4
use Rattle.texdec.proofs.nibble.decode_ia4.Reads as decode_ia4
use Rattle.texdec.proofs.pair.Picture.new.Reads as new
use Rattle.texdec.proofs.palette.index_part.Reads as index_part
use Rattle.texdec.proofs.palette.palette_index.Reads as palette_index
use Rattle.texdec.proofs.rgba16.rgba16_halves.Reads as rgba16_halves

pub decode_rgba16_entry_one : (w : _) (a : _) (r s : _) (e f : _) → decode_rgba16_entry.Post w a r e → decode_rgba16_entry.Post w a s f
    → r ≡ s
decode_rgba16_entry_one w a r s e f p q = determined p q

pub decode_ia16_entry_one : (w : _) (a : _) (r s : _) (e f : _) → decode_ia16_entry.Post w a r e → decode_ia16_entry.Post w a s f
    → r ≡ s
decode_ia16_entry_one w a r s e f p q = determined p q

pub decode_ci16_entry_one : (w : _) (a : _) (r s : _) (e f : _) → decode_ci16_entry.Post w a r e → decode_ci16_entry.Post w a s f
    → r ≡ s
decode_ci16_entry_one w a r s e f p q = determined p q

pub validate_one : (w : _) (a : _) (r s : _) (e f : _) → validate.Post w a r e → validate.Post w a s f → r ≡ s
validate_one w a r s e f p q = determined p q

pub validate_tlut_one : (w : _) (a : _) (r s : _) (e f : _) → validate_tlut.Post w a r e → validate_tlut.Post w a s f → r ≡ s
validate_tlut_one w a r s e f p q = determined p q

pub ia16_halves_one : (w : _) (a : _) (r s : _) (e f : _) → ia16_halves.Post w a r e → ia16_halves.Post w a s f → r ≡ s
ia16_halves_one w a r s e f p q = determined p q

pub ia4_table-one : (w : _) (a : _) (r s : _) (e f : _) → ia4_table.Post w a r e → ia4_table.Post w a s f → r ≡ s
ia4_table-one w a r s e f p q = determined p q

pub texel_bytes-one : (w : _) (a : _) (r s : _) (e f : _) → texel_bytes.Post w a r e → texel_bytes.Post w a s f → r ≡ s
texel_bytes-one w a r s e f p q = determined p q

pub ia8_table-one : (w : _) (a : _) (r s : _) (e f : _) → ia8_table.Post w a r e → ia8_table.Post w a s f → r ≡ s
ia8_table-one w a r s e f p q = determined p q

pub nibble-one : (w : _) (a : _) (r s : _) (e f : _) → nibble.Post w a r e → nibble.Post w a s f → r ≡ s
nibble-one w a r s e f p q = determined p q

pub decode_i4_one : (w : _) (a : _) (r s : _) (e f : _) → decode_i4.Post w a r e → decode_i4.Post w a s f → r ≡ s
decode_i4_one w a r s e f p q = determined p q

pub decode_ia4_one : (w : _) (a : _) (r s : _) (e f : _) → decode_ia4.Post w a r e → decode_ia4.Post w a s f → r ≡ s
decode_ia4_one w a r s e f p q = determined p q

pub new_one : (w : _) (a : _) (r s : _) (e f : _) → new.Post w a r e → new.Post w a s f → r ≡ s
new_one w a r s e f p q = same_answer _ a.0 a.1.0 a.1.1.0 r s p.0 q.0 p.1 q.1

pub index_part-one : (w : _) (a : _) (r s : _) (e f : _) → index_part.Post w a r e → index_part.Post w a s f → r ≡ s
index_part-one w a r s e f p q = determined p q

pub palette_index_one : (w : _) (a : _) (r s : _) (e f : _) → palette_index.Post w a r e → palette_index.Post w a s f → r ≡ s
palette_index_one w a r s e f p q = determined p q

pub rgba16_halves_one : (w : _) (a : _) (r s : _) (e f : _) → rgba16_halves.Post w a r e → rgba16_halves.Post w a s f → r ≡ s
rgba16_halves_one w a r s e f p q = determined p q
