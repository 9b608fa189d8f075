-- Laws of the search for the lowest wrong address of an offered key.
use mathlib.Core.Path.{◌≡◌, refl, ap, sym, ◌∙◌}
use mathlib.Core.Bool.{Bool, true, false, not}
use mathlib.Core.List.{List}
use Prim.Native.Nat.{ℕ, ◌<◌, ◌≤◌}
use lib.Dec.{eqb}
use lib.ListN.{length, get_or}
use borrow.Author.Tests.{eq-eqb}
use native.Mathlib.Omega.{arith}
use native.Mathlib.Decide.{ℕ_discrete}
use Rattle.rules.specs.Base.{one, mem}
use Rattle.rules.specs.Tile.{Tile, bank_size}
use Rattle.rules.specs.Reading.{trail}
use Rattle.rules.specs.Picture.{visible_picture}
use Rattle.rules.specs.Key.{key}
use Rattle.rules.specs.Check.{Lowest, wrong_at, lowest_wrong, wrong_kind, said, checked}
use Rattle.rules.proofs.Keys.{length-key, key-byte}
use Rattle.rules.proofs.Check.{lowest_one, lowest_same, lowest_wrong_lem}
use Rattle.key.specs.Notes.{Notes, kept_by}
use Rattle.key.specs.Offer.{wrong_by, said_at}
use Rattle.key.proofs.Cuts.{kept_by_lem}

-- f holds of none from i on and below a
abbrev pub NoneBelow : (ℕ → Bool) → ℕ → ℕ → Type 0
NoneBelow f i a = (k : ℕ) → i ≤ k → k < a → f k ≡ false

-- By the notes of what the visible picture reads, the search is for the lowest address at which the offer is not the key.
module _ (t : Tile) (mode lane : ℕ) (bank notes offer : List ℕ) (bank_whole : length bank ≡ bank_size)
    (offer_whole : length offer ≡ bank_size) (noted : Notes notes (trail (visible_picture t mode lane) bank)) where
  same_byte : (k : ℕ) → k < bank_size → kept_by (get_or bank k 0) (get_or notes k 0) ≡ get_or (key t mode lane bank) k 0
  unfolding Notes key
  same_byte k h =
      ap (kept_by (get_or bank k 0)) (noted k h)
      ∙ kept_by_lem (get_or bank k 0) (mem k (trail (visible_picture t mode lane) bank))
      ∙ sym (key-byte (visible_picture t mode lane) bank k bank_whole)

  lowest_of_key : Lowest 0 bank_size (wrong_at (key t mode lane bank) offer) (lowest_wrong (key t mode lane bank) offer)
  unfolding key
  lowest_of_key =
      let n = length-key (visible_picture t mode lane) bank in
      rw n at (lowest_wrong_lem (key t mode lane bank) offer (n ∙ sym offer_whole))

  lowest_found : (a : ℕ) → Lowest 0 bank_size (wrong_by bank notes offer) a → a ≡ lowest_wrong (key t mode lane bank) offer
  lowest_found a l =
      lowest_one (lowest_same (λ k h. ap (λ n. not (eqb n (get_or offer k 0))) (same_byte k h)) l) lowest_of_key

  -- a byte is kept where its note is 1
  kept_by_note : (a : ℕ) → a < bank_size → eqb (get_or notes a 0) 1 ≡ mem a (trail (visible_picture t mode lane) bank)
  unfolding Notes
  kept_by_note a h = rw (noted a h) (is_one (mem a (trail (visible_picture t mode lane) bank)))
    where
      is_one : (b : Bool) → eqb (one b) 1 ≡ b
      is_one true = refl
      is_one false = refl

  pub checked_by_notes : (a : ℕ) → Lowest 0 bank_size (wrong_by bank notes offer) a
      → said_at bank notes offer a ≡ checked t mode lane bank offer
  unfolding checked
  checked_by_notes a l = rw (← lowest_found a l) (go (ℕ_discrete a bank_size))
    where
      go : Dec (a ≡ bank_size) → said_at bank notes offer a
          ≡ said a (wrong_kind (mem a (trail (visible_picture t mode lane) bank)) (get_or bank a 0) (get_or offer a 0))
      go (yes e) = rw (eq-eqb a bank_size e)
      go (no e) = rw (kept_by_note a (omega (arith, l.to)))
