-- The first refusal of a record by the tests that led there.
use mathlib.Core.Path.{◌≡◌, refl, ap, sym, ◌∙◌}
use mathlib.Core.Bool.{true, false}
use mathlib.Core.List.{List, [], ◌∷◌}
use Prim.Native.Nat.{ℕ}
use lib.Dec.{ltb}
use lib.ListN.{length}
use Rattle.std.specs.Prelude.{Result, Ok, Err, IsErrAnd}
use Rattle.rules.specs.Refusal.{Test, ◌if◌, first}
use Rattle.rules.specs.Calls.{AllLent}
use Rattle.rules.specs.Replay.{replay_size, kind_in, size_in, asks_key, spent, short_part}
use Rattle.rules.specs.Replay.{record_tests, step_tests, own_tests, replay_tests}
use Rattle.rules.specs.Replay.{Carried}
use Rattle.rules.proofs.Refused.{numbered, first-before, first-after}
use Rattle.rules.proofs.LentTests.{all_lent}
use Rattle.rules.proofs.ReplayTests.{key_tests_in, load_tests_in, tests_numbered, step_left}
use Rattle.rdp.specs.Refused.{number_of, refusal_of}
use Rattle.rdp.specs.declared.refusal.Refusal.{Refusal}
use Rattle.rdp.proofs.Refusals.{after}

-- what a `?` hands on has the refusal's number
pub handed : {A : Type 0} (x : Result A Refusal) (e : Refusal) → IsErrAnd x (λ f. f ≡ e) → refusal_of x ≡ number_of e
handed (Ok a) e h = absurd h
handed (Err f) e h = ap number_of h

-- a key takes no number
key_left : (r : List ℕ) (last : ℕ) → asks_key r ≡ true → first (spent last r ∷ []) ≡ 0
unfolding first
key_left r last k = rw k

module _ (end : ℕ) (r : List ℕ) where
  abbrev torn : Test
  torn = 8 if ltb (length r) replay_size

  abbrev unknown_kind : Test
  unknown_kind = 10 if ltb 3 (kind_in r)

  pub by_length : (n : ℕ) → n ≡ first (torn ∷ []) → (n ≡ 0 → ⊥) → n ≡ first (record_tests end r)
  unfolding record_tests
  by_length n e h = first-before (torn ∷ []) _ n (numbered _ refl) e h

  module _ (whole : 0 ≡ first (torn ∷ [])) where
    pub by_kind : (n : ℕ) → n ≡ first (unknown_kind ∷ []) → (n ≡ 0 → ⊥) → n ≡ first (record_tests end r)
    unfolding record_tests
    by_kind n e h = after n (torn ∷ []) _ (numbered _ refl) whole (first-before (unknown_kind ∷ []) _ n (numbered _ refl) e h)

    module _ (known : 0 ≡ first (unknown_kind ∷ [])) where
      pub of_key : (n : ℕ) → asks_key r ≡ true → n ≡ first (key_tests_in end r) → n ≡ first (record_tests end r)
      unfolding record_tests
      of_key n k e = after n (torn ∷ unknown_kind ∷ []) _ (numbered _ refl) (after 0 (torn ∷ []) _ (numbered _ refl) whole known) (rw k e)

      pub of_load : (n : ℕ) → asks_key r ≡ false → n ≡ first (load_tests_in end r) → n ≡ first (record_tests end r)
      unfolding record_tests
      of_load n k e = after n (torn ∷ unknown_kind ∷ []) _ (numbered _ refl) (after 0 (torn ∷ []) _ (numbered _ refl) whole known) (rw k e)

-- the tests of a step: a record's own, then the number's
module _ (end : ℕ) (r : List ℕ) (last : ℕ) where
  pub refused_step : (n : ℕ) → n ≡ first (record_tests end r) → (n ≡ 0 → ⊥) → n ≡ first (step_tests end r last)
  refused_step n e h = first-before (record_tests end r) (spent last r ∷ []) n (tests_numbered end r) e h

  module _ (passed : 0 ≡ first (record_tests end r)) where
    pub load_step : first (step_tests end r last) ≡ first (spent last r ∷ [])
    load_step = step_left end r (sym passed) last

    pub key_step : asks_key r ≡ true → 0 ≡ first (step_tests end r last)
    key_step k = sym (load_step ∙ key_left r last k)

-- the tests of the call for one record: those of the lent buffers, the record's own, the part's, and the number's
module _ (m : Carried) (r : List ℕ) (end : ℕ) (part : List ℕ) (w : AllLent m.bank m.map m.reasons) where
  rest : List Test
  rest = short_part part r ∷ spent m.last r ∷ []

  own : first (replay_tests m r end part) ≡ first (own_tests end r part m.last)
  own = all_lent m.bank m.map m.reasons (own_tests end r part m.last) w

  pub refused_record : (n : ℕ) → n ≡ first (record_tests end r) → (n ≡ 0 → ⊥) → n ≡ first (replay_tests m r end part)
  unfolding rest
  refused_record n e h = first-before (record_tests end r) rest n (tests_numbered end r) e h ∙ sym own

  module _ (passed : 0 ≡ first (record_tests end r)) where
    past : first (replay_tests m r end part) ≡ first rest
    unfolding rest
    past = own ∙ first-after (record_tests end r) rest (tests_numbered end r) (sym passed)

    pub key_call : asks_key r ≡ true → 0 ≡ first (replay_tests m r end part)
    unfolding rest first
    key_call k = sym (past ∙ rw k)

    module _ (load : asks_key r ≡ false) where
      pub short_call : (n : ℕ) → n ≡ first ((11 if ltb (length part) (size_in r)) ∷ []) → (n ≡ 0 → ⊥)
          → n ≡ first (replay_tests m r end part)
      unfolding rest
      short_call n e h =
          first-before (short_part part r ∷ []) (spent m.last r ∷ []) n (numbered (short_part part r ∷ []) refl) (rw load e) h ∙ sym past

      pub load_call : 0 ≡ first ((11 if ltb (length part) (size_in r)) ∷ [])
          → first (replay_tests m r end part) ≡ first (spent m.last r ∷ [])
      unfolding rest
      load_call e =
          past ∙ first-after (short_part part r ∷ []) (spent m.last r ∷ []) (numbered (short_part part r ∷ []) refl) (rw load (sym e))
