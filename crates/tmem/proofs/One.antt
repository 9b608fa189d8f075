-- Two answers that the contract of a public function allows are the same, and so is what they leave in the lent buffers.
use mathlib.Core.Path.{◌≡◌}
use mathlib.Core.List.{[], ◌∷◌}
use Rattle.rules.proofs.Refused.{determined}
use Rattle.rdp.proofs.Determined.{load_determined, tested_determined}
use Rattle.tmem.proofs.asked.Asked.tlut.Reads as tlut
use Rattle.tmem.proofs.bank.Bank.entry_addr.Reads as entry_addr
use Rattle.tmem.proofs.bank.Bank.fresh.Reads as fresh
use Rattle.tmem.proofs.load.check_lent.Reads as check_lent
use Rattle.tmem.proofs.load.check_numbers.Reads as check_numbers
use Rattle.tmem.proofs.load.is_spent.Reads as is_spent
use Rattle.tmem.proofs.load.load.Reads as load
use Rattle.tmem.proofs.load.write_block_for_tile.Reads as write_block_for_tile
use Rattle.tmem.proofs.load.write_tile_for_tile.Reads as write_tile_for_tile
use Rattle.tmem.proofs.load.write_tlut_hardware_for_tile.Reads as write_tlut_hardware_for_tile
use Rattle.tmem.proofs.load.write_tlut_rows_for_tile.Reads as write_tlut_rows_for_tile

pub tlut-one : (w : _) (a : _) (r s : _) (e f : _) → tlut.Post w a r e → tlut.Post w a s f → r ≡ s
tlut-one w a r s e f p q = determined p q

pub fresh-one : (w : _) (a : _) (r s : _) (e f : _) → fresh.Post w a r e → fresh.Post w a s f → r ≡ s
fresh-one w a r s e f p q = λ i. record { bytes = determined p q i }

pub entry_addr_one : (w : _) (a : _) (r s : _) (e f : _) → entry_addr.Post w a r e → entry_addr.Post w a s f → r ≡ s
entry_addr_one w a r s e f p q = λ i. record { 0 = determined p q i }

pub load_one : (w : _) (a : _) (r s : _) (e f : _) → load.Post w a r e → load.Post w a s f
    → (r ≡ s) × (e.0.now ∷ e.1.0.now ∷ e.1.1.0.now ∷ [] ≡ f.0.now ∷ f.1.0.now ∷ f.1.1.0.now ∷ [])
load_one w a r s e f p q = load_determined _ _ r s _ _ p q

pub check_lent_one : (w : _) (a : _) (r s : _) (e f : _) → check_lent.Post w a r e → check_lent.Post w a s f → r ≡ s
check_lent_one w a r s e f p q = tested_determined _ r s p q

pub check_numbers_one : (w : _) (a : _) (r s : _) (e f : _) → check_numbers.Post w a r e → check_numbers.Post w a s f → r ≡ s
check_numbers_one w a r s e f p q = tested_determined _ r s p q

pub is_spent_one : (w : _) (a : _) (r s : _) (e f : _) → is_spent.Post w a r e → is_spent.Post w a s f → r ≡ s
is_spent_one w a r s e f p q = determined p q

pub write_block_for_tile_one : (w : _) (a : _) (r s : _) (e f : _) → write_block_for_tile.Post w a r e → write_block_for_tile.Post w a s f
    → (r ≡ s) × (e.0.now ∷ e.1.0.now ∷ e.1.1.0.now ∷ [] ≡ f.0.now ∷ f.1.0.now ∷ f.1.1.0.now ∷ [])
write_block_for_tile_one w a r s e f p q = load_determined _ _ r s _ _ p q

pub write_tile_for_tile_one : (w : _) (a : _) (r s : _) (e f : _) → write_tile_for_tile.Post w a r e → write_tile_for_tile.Post w a s f
    → (r ≡ s) × (e.0.now ∷ e.1.0.now ∷ e.1.1.0.now ∷ [] ≡ f.0.now ∷ f.1.0.now ∷ f.1.1.0.now ∷ [])
write_tile_for_tile_one w a r s e f p q = load_determined _ _ r s _ _ p q

pub write_tlut_hardware_for_tile_one : (w : _) (a : _) (r s : _) (e f : _) → write_tlut_hardware_for_tile.Post w a r e
    → write_tlut_hardware_for_tile.Post w a s f
    → (r ≡ s) × (e.0.now ∷ e.1.0.now ∷ e.1.1.0.now ∷ [] ≡ f.0.now ∷ f.1.0.now ∷ f.1.1.0.now ∷ [])
write_tlut_hardware_for_tile_one w a r s e f p q = load_determined _ _ r s _ _ p q

pub write_tlut_rows_for_tile_one : (w : _) (a : _) (r s : _) (e f : _) → write_tlut_rows_for_tile.Post w a r e
    → write_tlut_rows_for_tile.Post w a s f
    → (r ≡ s) × (e.0.now ∷ e.1.0.now ∷ e.1.1.0.now ∷ [] ≡ f.0.now ∷ f.1.0.now ∷ f.1.1.0.now ∷ [])
write_tlut_rows_for_tile_one w a r s e f p q = load_determined _ _ r s _ _ p q
