-- What a caller of `key` knows that lent a whole bank and a whole key: the refusal is that of tile, mode, lane and pair, and where
-- there is none the count is the kept count.
use mathlib.Core.Path.{◌≡◌, ap, sym, ◌∙◌}
use mathlib.Core.List.{List, [], ◌∷◌}
use Prim.Native.Nat.{ℕ}
use lib.ListN.{length}
use borrow.Author.Tests.{eq-eqb}
use Rattle.rules.specs.Tile.{Tile, bank_size}
use Rattle.rules.specs.Refusal.{Outcome, first}
use Rattle.rules.specs.Calls.{pair_tests, key_tests, key_call}
use Rattle.rules.specs.Key.{key, kept_count}
use Rattle.rules.proofs.Refused.{call_refusal, done_is}

module _ (bank : List ℕ) (t : Tile) (mode lane : ℕ) (out : List ℕ) (whole : length bank ≡ bank_size) (room : length out ≡ bank_size) where
  -- with a whole bank and a whole key, these tests are left
  tests_left : first (key_tests bank t mode lane out) ≡ first (pair_tests t mode lane)
  unfolding first
  tests_left = rw (eq-eqb _ _ whole, eq-eqb _ _ room)

  module _ (refusal count : ℕ) (left : List ℕ)
      (answer : record { refusal = refusal; numbers = count ∷ []; buffers = left ∷ [] } ≡ key_call bank t mode lane out) where
    pub called_refusal : refusal ≡ first (pair_tests t mode lane)
    unfolding key_call
    called_refusal =
        ap (λ (o : Outcome). o.refusal) answer
        ∙ call_refusal (key_tests bank t mode lane out) (kept_count t mode lane bank ∷ []) (key t mode lane bank ∷ []) (out ∷ [])
        ∙ tests_left

    pub called_count : first (pair_tests t mode lane) ≡ 0 → count ≡ kept_count t mode lane bank
    unfolding key_call
    called_count z =
        let tests = key_tests bank t mode lane out in
        let e = answer ∙ sym (done_is tests (kept_count t mode lane bank ∷ []) (key t mode lane bank ∷ []) (out ∷ []) (tests_left ∙ z)) in
        let n : count ∷ [] ≡ kept_count t mode lane bank ∷ [] = ap (λ (o : Outcome). o.numbers) e in
        cc
