-- The lane map byte by byte. It only names what the rules say slot by slot.
use Rattle.std.specs.Prelude.{cond, List, ℕ, ◌+◌, ◌*◌, ◌%◌, ◌^◌}
use Rattle.rules.specs.Reach.{uneven}
use Rattle.reach.specs.Words.{ors}

-- the bit of an uneven slot
unfoldable pub slot_bit : List ℕ → ℕ → ℕ
slot_bit bank j = cond (uneven bank j) (2 ^ (j % 8)) 0

-- byte i of the lane map
unfoldable pub slots_byte : List ℕ → ℕ → ℕ
slots_byte bank i = ors 8 (λ k. slot_bit bank (8 * i + k))
