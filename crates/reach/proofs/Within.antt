-- What holds of the inputs of a call that is not refused.
use mathlib.Core.Path.{◌≡◌, refl, sym}
use mathlib.Core.List.{List, [], ◌∷◌}
use Prim.Native.Nat.{ℕ}
use lib.ListN.{length}
use borrow.Author.Tests.{eqb-true, not-false}
use Rattle.std.specs.Prelude.{Result, Ok, Err, OnOk}
use Rattle.rules.specs.Tile.{Tile, InRange}
use Rattle.rules.specs.Refusal.{Test, ◌if◌, first}
use Rattle.rules.specs.Calls.{sampling_tests, not_bytes}
use Rattle.rules.proofs.Refused.{Passed, numbered, passed}
use Rattle.rules.proofs.Ranges.{in_range}
use Rattle.rdp.specs.Refused.{refusal_of}
use Rattle.rdp.specs.declared.refusal.Refusal.{Refusal}

-- the test of a length, and what it says where it passes
abbrev pub length_test : ℕ → List ℕ → List Test
length_test size lent = (1 if not_bytes size lent) ∷ []

pub of_length : (size : ℕ) (lent : List ℕ) → 0 ≡ first (length_test size lent) → length lent ≡ size
unfolding Passed
of_length size lent h =
    let p = passed (length_test size lent) (numbered (length_test size lent) refl) (sym h) in
    eqb-true _ _ (not-false _ p.0)

-- what those of a tile and a mode say
pub of_sampling : (t : Tile) (mode : ℕ) → 0 ≡ first (sampling_tests t mode) → InRange t
unfolding Passed
of_sampling t mode h = in_range t (passed (sampling_tests t mode) (numbered (sampling_tests t mode) refl) (sym h)).0

-- two facts of which the second holds where nothing is refused
pub ok_after : {A B : Type 0} (r : Result Unit Refusal) → A → (0 ≡ refusal_of r → B) → OnOk r (A × B)
ok_after (Ok u) a b = (a, b refl)
ok_after (Err e) a b = tt
