-- The tests of a key call one after the other: the two lengths, then the picture's.
use mathlib.Core.Path.{◌≡◌, refl}
use mathlib.Core.List.{List, [], ◌∷◌}
use Prim.Native.Nat.{ℕ}
use lib.ListN.{length}
use borrow.Author.Tests.{eq-eqb, ne_eqb}
use Rattle.rules.specs.Tile.{Tile, bank_size}
use Rattle.rules.specs.Refusal.{◌if◌, first}
use Rattle.rules.specs.Calls.{not_bytes, pair_tests, key_tests}
use Rattle.rules.proofs.Refused.{numbered, first-before}
use Rattle.rdp.specs.declared.refusal.Refusal.{Refusal}
use Rattle.rdp.specs.Refused.{number_of}
use Rattle.rdp.proofs.Refusals.{after}
use Rattle.rdp.proofs.Refusals.{numbered as refusal_numbered}

-- bytes of another number are refused, and those of the number are not
pub another_number : (n : ℕ) (bytes : List ℕ) → (length bytes ≡ n → ⊥) → 1 ≡ first ((1 if not_bytes n bytes) ∷ [])
unfolding first
another_number n bytes e = rw (ne_eqb (length bytes) n e)

pub same_number : (n : ℕ) (bytes : List ℕ) → length bytes ≡ n → 0 ≡ first ((1 if not_bytes n bytes) ∷ [])
unfolding first
same_number n bytes e = rw (eq-eqb (length bytes) n e)

module _ (bank : List ℕ) (t : Tile) (mode lane : ℕ) (out : List ℕ) where
  pub of_bank : (e : Refusal) → number_of e ≡ first ((1 if not_bytes bank_size bank) ∷ [])
      → number_of e ≡ first (key_tests bank t mode lane out)
  of_bank e p =
      first-before ((1 if not_bytes bank_size bank) ∷ []) ((1 if not_bytes bank_size out) ∷ pair_tests t mode lane) _ (numbered _ refl) p
      (refusal_numbered e)

  module _ (bank_whole : 0 ≡ first ((1 if not_bytes bank_size bank) ∷ [])) where
    pub of_out : (e : Refusal) → number_of e ≡ first ((1 if not_bytes bank_size out) ∷ [])
        → number_of e ≡ first (key_tests bank t mode lane out)
    of_out e p =
        after _ ((1 if not_bytes bank_size bank) ∷ []) _ (numbered _ refl) bank_whole
        (first-before ((1 if not_bytes bank_size out) ∷ []) (pair_tests t mode lane) _ (numbered _ refl) p (refusal_numbered e))

    pub of_picture : (n : ℕ) → 0 ≡ first ((1 if not_bytes bank_size out) ∷ []) → n ≡ first (pair_tests t mode lane)
        → n ≡ first (key_tests bank t mode lane out)
    of_picture n out_whole p =
        after _ ((1 if not_bytes bank_size bank) ∷ []) _ (numbered _ refl) bank_whole
        (after _ ((1 if not_bytes bank_size out) ∷ []) _ (numbered _ refl) out_whole p)
