-- What a caller of `load` answers whose load passes the tests of its numbers: that it was carried out and its stores counted, or 18.
use mathlib.Core.Path.{◌≡◌, refl, ap, ◌∙◌}
use mathlib.Core.List.{List, [], ◌∷◌}
use Prim.Native.Nat.{ℕ, zero, suc, ◌≤◌}
use lib.ListN.{length, get_or}
use Rattle.std.specs.Prelude.{Result, Ok, Err, IsErrAnd}
use Rattle.rules.specs.Load.{load_tile, following, ordinary}
use Rattle.rules.specs.Refusal.{Test, ◌if◌, Outcome, first, settle, call_or}
use Rattle.rules.specs.Calls.{AllLent, number_spent, bad_reason, number_tests, load_tests, left_by}
use Rattle.rules.proofs.Refused.{numbered, first-after}
use Rattle.rules.proofs.LentTests.{all_lent}
use Rattle.rules.proofs.ReplayTests.{shorter_source}
use Rattle.rdp.specs.Refused.{number_of}
use Rattle.rdp.specs.View.{tile_of, replay_answered}
use Rattle.rdp.specs.declared.answer.Replayed.{Replayed}
use Rattle.rdp.specs.declared.refusal.Refusal.{Refusal}
use Rattle.tmem.specs.Asked.{asked_outside, asked_stores, asked_call}
use Rattle.replaying.specs.declared.loading.Loading.{Loading}
use Rattle.replaying.specs.Said.{load_done}

-- an answer of a load without how much was made up
abbrev pub less : Outcome → Outcome
less o = record { refusal = o.refusal; numbers = get_or o.numbers 0 0 ∷ get_or o.numbers 2 0 ∷ []; buffers = o.buffers }

less-settle : (n a b c last : ℕ) (left lent : List (List ℕ))
    → less (settle n (a ∷ b ∷ c ∷ []) (0 ∷ 0 ∷ last ∷ []) left lent) ≡ settle n (a ∷ c ∷ []) (0 ∷ last ∷ []) left lent
unfolding settle
less-settle zero a b c last left lent = refl
less-settle (suc n) a b c last left lent = refl

-- an answer that hands a refusal on
pub handed_answer : (last : ℕ) (x : Result Replayed Refusal) (e : Refusal) (left : List (List ℕ)) → IsErrAnd x (λ f. f ≡ e)
    → replay_answered last x left ≡ record { refusal = number_of e; numbers = 0 ∷ last ∷ []; buffers = left }
handed_answer last (Ok a) e left h = absurd h
handed_answer last (Err f) e left h = ap (λ g. record { refusal = number_of g; numbers = 0 ∷ last ∷ []; buffers = left }) h

module _ (l : Loading) (src : List ℕ) (last : ℕ) (bank map reasons : List ℕ) (w : AllLent bank map reasons) (short : length src ≤ l.size)
  where
    tests : List Test
    tests = load_tests bank map reasons src (tile_of l.tile) l.image (asked_outside l.image l.asked) ordinary last

    last_test : first tests ≡ first ((18 if number_spent last) ∷ [])
    unfolding first tests
    last_test =
        let own = number_tests (length src) (tile_of l.tile) l.image (asked_outside l.image l.asked) in
        let rest = bad_reason ordinary ∷ (18 if number_spent last) ∷ [] in
        all_lent bank map reasons (own rest) w
        ∙ first-after (own []) rest (numbered (own []) refl)
        (shorter_source l.size (length src) (tile_of l.tile) l.image (asked_outside l.image l.asked) [] short l.passes)

    pub loaded_is : less (asked_call bank map reasons src (tile_of l.tile) l.image l.asked ordinary last)
        ≡ load_done l src last bank map reasons
    unfolding call_or tests
    loaded_is =
        less-settle (first tests) _ _ _ _ _ _
        ∙ ap (λ n. settle n (length (asked_stores (load_tile (tile_of l.tile)) l.image l.asked) ∷ following last ∷ []) (0 ∷ last ∷ [])
        (left_by src (asked_stores (load_tile (tile_of l.tile)) l.image l.asked) (following last) ordinary bank map reasons)
        (bank ∷ map ∷ reasons ∷ [])) last_test
