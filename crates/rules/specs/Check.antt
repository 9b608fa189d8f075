-- Document 02's item 13: the check of an offered key.
use Rattle.std.specs.Prelude.{◌≡◌, Bool, true, false, cond, not, ◌&&◌, List, [], ◌∷◌, ℕ, suc, ◌+◌, ◌<◌, ◌≤◌, eqb, get_or}
use Rattle.rules.specs.Base.{one, mem}
use Rattle.rules.specs.Reading.{trail}
use Rattle.rules.specs.Tile.{Tile, bank_size}
use Rattle.rules.specs.Picture.{visible_picture}
use Rattle.rules.specs.Key.{key}

-- "On a no it names the lowest wrong address": how many bytes of the offer are right before one is wrong; 4,096 where none is
unfoldable pub lowest_wrong : List ℕ → List ℕ → ℕ
lowest_wrong [] offer = 0
lowest_wrong (x ∷ right) [] = 0
lowest_wrong (x ∷ right) (y ∷ offer) = cond (eqb x y) (suc (lowest_wrong right offer)) 0

-- the offer has another byte at an address than the right key
abbrev pub wrong_at : List ℕ → List ℕ → ℕ → Bool
wrong_at right offer a = not (eqb (get_or right a 0) (get_or offer a 0))

-- a is the lowest of i, i + 1, .. n of them, of which f holds, or i + n where it holds of none
pub record Lowest (i n : ℕ) (f : ℕ → Bool) (a : ℕ) : Type 0 where
  pub below : (k : ℕ) → i ≤ k → k < a → f k ≡ false
  pub from : i ≤ a
  pub to : a ≤ i + n
  pub holds : a < i + n → f a ≡ true

-- "Missing: it is kept and not zero in the bank but zero in the offer."
abbrev pub missing : Bool → ℕ → ℕ → Bool
missing is_kept in_bank in_offer = is_kept && not (eqb in_bank 0) && eqb in_offer 0

-- "Left over: it is not kept and the offer is not zero there."
abbrev pub left_over : Bool → ℕ → Bool
left_over is_kept in_offer = not is_kept && not (eqb in_offer 0)

-- "says whether that byte is missing, left over or of another value": 1, 2 or 3. "Every other difference is another value." A byte is kept
-- where the picture reads it, whatever the bank has there.
unfoldable pub wrong_kind : Bool → ℕ → ℕ → ℕ
wrong_kind is_kept in_bank in_offer = cond (missing is_kept in_bank in_offer) 1 (cond (left_over is_kept in_offer) 2 3)

-- yes or no, 1 or 0, by the lowest wrong address; on a no, that address and what is wrong there, and on a yes 0 for both
abbrev pub said : ℕ → ℕ → List ℕ
said a kind = let yes : Bool = eqb a bank_size in one yes ∷ cond yes 0 a ∷ cond yes 0 kind ∷ []

-- "says yes exactly when that key is the right one under Item 4"
unfoldable pub checked : Tile → ℕ → ℕ → List ℕ → List ℕ → List ℕ
checked t mode lane bank offer =
    let a : ℕ = lowest_wrong (key t mode lane bank) offer in
    said a (wrong_kind (mem a (trail (visible_picture t mode lane) bank)) (get_or bank a 0) (get_or offer a 0))
