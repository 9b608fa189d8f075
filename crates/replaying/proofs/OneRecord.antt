-- The call for one record is the record's outcome over a piece of the companion file that starts with the record's part.
use mathlib.Core.Path.{◌≡◌, refl, ap, sym, ◌∙◌}
use mathlib.Core.Bool.{Bool, true, false, true≢false}
use mathlib.Core.List.{List, [], ◌∷◌}
use Prim.Native.Nat.{ℕ, zero, suc, ◌-◌, ◌<◌, ◌≤◌}
use native.Mathlib.Omega.{arith}
use native.Mathlib.Decide.{dec_lt}
use lib.Dec.{ltb}
use lib.ListN.{length, take, drop}
use borrow.Author.Tests.{lt-ltb, le-ltb}
use Rattle.std.specs.Prelude.{Option, Some, None, Result, Err, MatchOption}
use Rattle.std.specs.Option.{unwrap_or}
use Rattle.rules.specs.Calls.{AllLent}
use Rattle.rules.specs.Refusal.{Test, ◌if◌, first, settle, call_or}
use Rattle.rules.specs.Replay.{offset_in, size_in, asks_key, record_tests, step_tests, replay_tests}
use Rattle.rules.specs.Replay.{Carried, lent_of, count_of, last_of, left}
use Rattle.rules.specs.Replay.{Piece, piece, part_of, takes_part, at_hand, tested, outcome, in_piece, replay_call}
use Rattle.rules.proofs.Refused.{refused_or_is}
use Rattle.rdp.specs.View.{replay_answered}
use Rattle.rdp.specs.declared.answer.Replayed.{Replayed}
use Rattle.rdp.specs.declared.refusal.Refusal.{Refusal}
use Rattle.rdp.specs.declared.refusal.Refusal.TheVariants.{Beyond}
use Rattle.replaying.proofs.ByTests.{refused_step, key_step, load_step, refused_record, key_call, short_call, load_call}
use Rattle.replaying.proofs.Held.{none_missing, none_taken, part_held, part_missing, part_taken, refused_takes, key_takes, load_takes}

-- outcomes are the same where the first refusals are
same_tested : (tests tests' : List Test) (src r : List ℕ) (m : Carried) → first tests ≡ first tests'
    → tested tests src r m ≡ tested tests' src r m
unfolding tested call_or
same_tested tests tests' src r m e =
    ap (λ n. settle n (count_of r m.bank ∷ last_of r m.last ∷ []) (0 ∷ m.last ∷ []) (left src r m) (lent_of m)) e

-- the test of the part's length
part_fits : (size n : ℕ) → size ≤ n → 0 ≡ first ((11 if ltb n size) ∷ [])
unfolding first
part_fits size n h = rw (le-ltb n size h)

part_short : (size n : ℕ) → n < size → 11 ≡ first ((11 if ltb n size) ∷ [])
unfolding first
part_short size n h = rw (lt-ltb n size h)

module _ (m : Carried) (r : List ℕ) (end start : ℕ) (part : List ℕ) (w : AllLent m.bank m.map m.reasons)
    (starts : start ≡ offset_in r) where
  abbrev p : Piece
  p = piece end start part

  refused : (n : ℕ) → n ≡ first (record_tests end r) → (n ≡ 0 → ⊥) → in_piece p r m ≡ replay_call m r end part
  unfolding outcome replay_call tested
  refused n e h =
      sym (none_taken p r (refused_takes end r n e h) m)
      ∙ sym (refused_or_is (step_tests end r m.last) _ _ _ _ n (refused_step end r m.last n e h) h)
      ∙ refused_or_is (replay_tests m r end part) _ _ _ _ n (refused_record m r end part w n e h) h

  key : 0 ≡ first (record_tests end r) → asks_key r ≡ true → in_piece p r m ≡ replay_call m r end part
  unfolding outcome replay_call tested call_or settle left
  key z k =
      sym (none_taken p r (key_takes end r k) m) ∙ rw (← key_step end r m.last z k, ← key_call m r end part w z k, k)

  load : 0 ≡ first (record_tests end r) → asks_key r ≡ false → size_in r ≤ length part → in_piece p r m ≡ replay_call m r end part
  unfolding outcome replay_call
  load z k h =
      let none : offset_in r - start ≡ 0 = omega arith in
      sym (part_taken p r (load_takes end r z k) m)
      ∙ ap (λ n. outcome end (take (size_in r) (drop n part)) r m) none
      ∙ same_tested (step_tests end r m.last) (replay_tests m r end part) (part_of r part) r m
      (load_step end r m.last z ∙ sym (load_call m r end part w z k (part_fits _ _ h)))

  held : at_hand p r ≡ true → in_piece p r m ≡ replay_call m r end part
  held h = go (first (record_tests end r)) refl (asks_key r) refl
    where
      fits : takes_part end r ≡ true → Dec (length part < size_in r) → size_in r ≤ length part
      fits t (yes l) = absurd (true≢false (sym h ∙ part_missing p r t (λ x. omega (arith, l))))
      fits t (no l) = omega (arith, l)

      go : (n : ℕ) → n ≡ first (record_tests end r) → (k : Bool) → asks_key r ≡ k → in_piece p r m ≡ replay_call m r end part
      go zero e true k = key e k
      go zero e false k = load e k (fits (load_takes end r e k) (dec_lt (length part) (size_in r)))
      go (suc n) e b k = refused (suc n) e (λ z. omega arith)

  missing : at_hand p r ≡ false → 11 ≡ first (replay_tests m r end part)
  missing h = go (first (record_tests end r)) refl (asks_key r) refl
    where
      short : 0 ≡ first (record_tests end r) → asks_key r ≡ false → Dec (length part < size_in r) → 11 ≡ first (replay_tests m r end part)
      short e k (yes l) = short_call m r end part w e k 11 (part_short _ _ l) (λ z. omega arith)
      short e k (no l) = absurd (true≢false (sym (part_held p r (load_takes end r e k) (omega arith) (omega (arith, l))) ∙ h))

      go : (n : ℕ) → n ≡ first (record_tests end r) → (k : Bool) → asks_key r ≡ k → 11 ≡ first (replay_tests m r end part)
      go zero e true k = absurd (true≢false (sym (none_missing p r (key_takes end r k)) ∙ h))
      go zero e false k = short e k (dec_lt (length part) (size_in r))
      go (suc n) e b k = absurd (true≢false (sym (none_missing p r (refused_takes end r (suc n) e (λ z. omega arith))) ∙ h))

  -- What the record answers over the piece, and 11 where its part is not there, is what the call answers.
  pub single_is : (m0 : Carried) → m0 ≡ m → (o : Option (Result Replayed Refusal)) (left : List (List ℕ))
      → MatchOption o ((at_hand p r ≡ false) × (left ≡ lent_of m0))
      (λ a. (at_hand p r ≡ true) × (replay_answered m.last a left ≡ in_piece p r m0))
      → replay_answered m.last (unwrap_or o (Err Beyond)) left ≡ replay_call m r end part
  unfolding replay_call tested
  single_is m0 same None left h =
      (λ i. record { refusal = 11; numbers = 0 ∷ m.last ∷ []; buffers = (h.1 ∙ ap lent_of same) i })
      ∙ refused_or_is (replay_tests m r end part) _ _ _ _ 11 (missing h.0) (λ e. omega arith)
  single_is m0 same (Some a) left h = h.1 ∙ ap (in_piece p r) same ∙ held h.0
