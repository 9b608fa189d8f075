-- The first refusal of a picture call: of the bank, of the pair, or of the buffers.
use mathlib.Core.Path.{◌≡◌, refl, ◌∙◌}
use mathlib.Core.Bool.{Bool, true, false, ◌&&◌}
use mathlib.Core.List.{List, [], ◌∷◌, ◌++◌}
use Prim.Native.Nat.{ℕ, ◌*◌, ◌/◌}
use lib.Dec.{ltb}
use lib.ListN.{length}
use Rattle.rules.specs.Reading.{trail}
use Rattle.rules.specs.Tile.{Tile, bank_size}
use Rattle.rules.specs.Picture.{reads_each}
use Rattle.rules.specs.Refusal.{Test, ◌if◌, first}
use Rattle.rules.specs.Calls.{not_bytes, pair_tests}
use Rattle.rules.proofs.Refused.{numbered, first-before}
use Rattle.rdp.specs.Refused.{number_of}
use Rattle.rdp.specs.declared.refusal.Refusal.{Refusal}
use Rattle.rdp.proofs.Refusals as rdp
use Rattle.decoder.proofs.Counted.{reads_count}
use Rattle.decoder.specs.Asked.{reading_by, room_tests, tests_by}
use Rattle.decoder.specs.Sizes.{texels_by}

-- the test of the bank
abbrev pub bank_tests : List ℕ → List Test
bank_tests bank = (1 if not_bytes bank_size bank) ∷ []

module _ (observe looked : Bool) (bank : List ℕ) (t : Tile) (mode lane : ℕ) (out seen : List ℕ) where
  abbrev room : List Test
  room = room_tests observe (texels_by looked t) (reads_each t mode) out seen

  -- all of them are the tests of a call
  pub all_tests : first (bank_tests bank ++ (pair_tests t mode lane ++ room)) ≡ first (tests_by observe looked bank t mode lane out seen)
  unfolding first
  all_tests = rw (← reads_count looked t mode lane bank) (go observe)
    where
      go : (b : Bool)
          → first (bank_tests bank ++ (pair_tests t mode lane
          ++ ((6 if ltb (length out) (4 * texels_by looked t))
          ∷ (7 if (b && ltb (length seen / 2) (length (trail (reading_by looked t mode lane) bank)))) ∷ [])))
          ≡ first (tests_by b looked bank t mode lane out seen)
      go true = refl
      go false = refl

  pub bank_refused : (e : Refusal) → number_of e ≡ first (bank_tests bank)
      → number_of e ≡ first (tests_by observe looked bank t mode lane out seen)
  bank_refused e p = first-before (bank_tests bank) _ (number_of e) (numbered _ refl) p (rdp.numbered e) ∙ all_tests

  pub pair_refused : (e : Refusal) → 0 ≡ first (bank_tests bank) → number_of e ≡ first (pair_tests t mode lane)
      → number_of e ≡ first (tests_by observe looked bank t mode lane out seen)
  pair_refused e b p =
      rdp.after (number_of e) (bank_tests bank) _ (numbered _ refl) b
      (first-before (pair_tests t mode lane) room (number_of e) (numbered _ refl) p (rdp.numbered e))
      ∙ all_tests

  pub room_decides : (n : ℕ) → 0 ≡ first (bank_tests bank) → 0 ≡ first (pair_tests t mode lane) → n ≡ first room
      → n ≡ first (tests_by observe looked bank t mode lane out seen)
  room_decides n b p r =
      rdp.after n (bank_tests bank) _ (numbered _ refl) b (rdp.after n (pair_tests t mode lane) room (numbered _ refl) p r) ∙ all_tests
