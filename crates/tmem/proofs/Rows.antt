-- Rows of entries: their lengths, and the stores of an entry.
use mathlib.Core.Path.{◌≡◌, ap, sym, ◌∙◌}
use mathlib.Core.List.{List}
use Prim.Native.Nat.{ℕ, ◌+◌, ◌*◌, ◌/◌, ◌%◌}
use native.Mathlib.Nat.{add_assoc, mul_assoc, mul-add-mod_self_left}
use native.Mathlib.Omega.{arith}
use lib.ListN.{length}
use Rattle.rules.specs.Base.{tab, tab_from, concat}
use Rattle.rules.specs.Load.{Store, store, LoadTile, entry_stores, entry_row}
use Rattle.rules.proofs.Tables.{length-tab}
use Rattle.tmem.specs.Part.{half_stores}
use Rattle.tmem.proofs.Carry.{table-length}

-- rows of entries, by their lengths
pub entry_length : (t : LoadTile) (stride row i : ℕ) → length (entry_stores t stride row i) ≡ 8
unfolding entry_stores
entry_length t stride row i = length-tab 8 _

pub entry_row-length : (t : LoadTile) (count stride row : ℕ) → length (entry_row t count stride row) ≡ count * 8
unfolding entry_row
entry_row-length t count stride row = table-length _ 8 (entry_length t stride row) count

-- an entry is one word, and rows are four lines apart
pub entry_word : (a r l i : ℕ) → 8 * ((a + 4 * r * l) % 512 + i) % 4096 ≡ (8 * a + 32 * r * l + 8 * i) % 4096
entry_word a r l i =
    let row : ℕ = a + 4 * r * l in
    let whole : 8 * a + 32 * r * l + 8 * i ≡ 4096 * (row / 512) + 8 * (row % 512 + i) = omega (arith, mul_assoc 4 r l, mul_assoc 32 r l) in
    sym (ap (λ n. n % 4096) whole ∙ mul-add-mod_self_left 4096 (row / 512) (8 * (row % 512 + i)))

pub entry_at : (t : LoadTile) (stride r i at : ℕ) → at ≡ (8 * t.tmem_addr + 32 * r * t.line + 8 * i) % 4096
    → tab 8 (λ k. store (at + k) (r * stride + 2 * i + k % 2)) ≡ entry_stores t stride r i
unfolding entry_stores
entry_at t stride r i at e = rw e

-- its halfwords, from a word of eight bytes
abbrev pub entry_turn : ℕ → ℕ → List Store
entry_turn at k = half_stores (at + 2 * k) (2 * k) (2 * k + 1)

pub entry_is : (at : ℕ) → concat (tab 4 (entry_turn at)) ≡ tab 8 (λ k. store (at + k) k)
unfolding concat tab tab_from
entry_is at = rw (add_assoc at 0 1, add_assoc at 2 1, add_assoc at 4 1, add_assoc at 6 1)
