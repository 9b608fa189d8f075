-- A run of records, a record more at a time, and the run's call.
use mathlib.Core.Path.{◌≡◌, refl, ap, sym, subst, ◌∙◌}
use mathlib.Core.List.{List, [], ◌∷◌, ◌++◌, append_assoc, append-nil}
use Prim.Native.Nat.{ℕ, ◌+◌, ◌≤◌}
use native.Mathlib.Omega.{arith}
use lib.ListN.{length, take, length-append}
use Rattle.std.specs.Prelude.{Result, Ok, Err, IsErrAnd}
use lib.Seq.{length-take-le}
use Rattle.rules.specs.Base.{record_of, over}
use Rattle.rules.specs.Lister.{line_text, number_text}
use Rattle.rules.specs.Refusal.{Outcome, first}
use Rattle.rules.specs.Calls.{AllLent}
use Rattle.rules.specs.Replay.{replay_size, replay_room, Carried, carried, Piece, in_piece, line_in, onward, replayed, lines, texts}
use Rattle.rules.specs.Replay.{first_records, short_text, run_tests, run_call}
use Rattle.rules.proofs.Refused.{done_or_is}
use Rattle.rules.proofs.LentTests.{all_lent}
use Rattle.rules.proofs.Tables.{tab_none, tab-more}
use Rattle.rules.proofs.Replay.{replayed-append, lines-append, texts-append}
use Rattle.decimal.proofs.Texts.{Put}
use Rattle.decimal.proofs.Writes.{wrote_start, wrote_more}
use Rattle.rdp.specs.Refused.{number_of}
use Rattle.rdp.specs.View.{replay_answered, run_answered}
use Rattle.rdp.specs.declared.answer.Replayed.{Replayed}
use Rattle.rdp.specs.declared.answer.Run.{Run as RunAnswer}
use Rattle.rdp.specs.declared.refusal.Refusal.{Refusal}
use Rattle.rdp.proofs.Refusals.{refused_call_or}
use Rattle.replaying.specs.Run.{RanTo}
use Rattle.replaying.specs.Said.{numbers_of, number_after}

-- a line's two numbers were put, the second where the first ends
pub line_put : (a b : ℕ) (out : List ℕ) (at : ℕ) (xs left : List ℕ) (i end : ℕ) → at ≤ length out → Put a 32 out at xs i
    → Put b 10 xs i left end
    → let t = line_text (a ∷ b ∷ []) in
    (end ≡ at + length t) × ((end ≤ at + replay_room) × (left ≡ over (take at out ++ t) out))
unfolding line_text
line_put a b out at xs left i end h p q =
    let one = wrote_more _ out at out (number_text a 32) xs i (wrote_start out at h) p.ends p.is in
    let two = wrote_more _ out i xs (number_text b 10) left end one q.ends q.is in
    let n : length (take at out) ≡ at = length-take-le at out h in
    let e : (take at out ++ number_text a 32) ++ number_text b 10 ≡ take at out ++ line_text (a ∷ b ∷ []) = simp append_assoc in
    (two.end ∙ rw (e, length-append, n), (omega (arith, p.near, q.near), two.is ∙ rw e))

-- the lines of records stand at the front and end at `end`, and what they carry on is m'
pub record Sofar (p : Piece) (l : List (List ℕ)) (m : Carried) (out : List ℕ) (m' : Carried) (out' : List ℕ) (end : ℕ) : Type 0 where
  pub carried_is : m' ≡ replayed (in_piece p) l m
  pub ends : end ≡ length (texts (lines (in_piece p) l m))
  pub text_is : out' ≡ over (texts (lines (in_piece p) l m)) out

-- a record more at the end
module _ (step : List ℕ → Carried → Outcome) (l : List (List ℕ)) (r : List ℕ) (m : Carried) where
  last_state : replayed step (l ++ (r ∷ [])) m ≡ onward (step r (replayed step l m))
  unfolding replayed
  last_state = replayed-append step l (r ∷ []) m

  last_text : texts (lines step (l ++ (r ∷ [])) m) ≡ texts (lines step l m) ++ line_text (line_in (step r (replayed step l m)))
  unfolding lines texts
  last_text =
      ap texts (lines-append step l (r ∷ []) m)
      ∙ texts-append (lines step l m) (lines step (r ∷ []) (replayed step l m))
      ∙ ap (λ t. texts (lines step l m) ++ t) (append-nil (line_text (line_in (step r (replayed step l m)))))

module _ (p : Piece) (input : List ℕ) (m : Carried) (out : List ℕ) where
  pub run_none : Sofar p (first_records input 0) m out m out 0
  unfolding replayed lines texts over
  run_none = rw (tab_none (record_of replay_size input)) (record { carried_is = refl; ends = refl; text_is = refl })

  pub run_more : (i : ℕ) (m' m'' : Carried) (out' out'' : List ℕ) (at end : ℕ) → Sofar p (first_records input i) m out m' out' at
      → m'' ≡ onward (in_piece p (record_of replay_size input i) m')
      → end ≡ at + length (line_text (line_in (in_piece p (record_of replay_size input i) m')))
      → out'' ≡ over (take at out' ++ line_text (line_in (in_piece p (record_of replay_size input i) m'))) out'
      → Sofar p (first_records input (i + 1)) m out m'' out'' end
  run_more i m' m'' out' out'' at end a carries ends is =
      let r = record_of replay_size input i in
      let l = first_records input i in
      let own = line_text (line_in (in_piece p r m')) in
      let same : in_piece p r m' ≡ in_piece p r (replayed (in_piece p) l m) = ap (in_piece p r) a.carried_is in
      let text : texts (lines (in_piece p) l m) ++ own ≡ texts (lines (in_piece p) (l ++ (r ∷ [])) m) =
      ap (λ o. texts (lines (in_piece p) l m) ++ line_text (line_in o)) same ∙ sym (last_text (in_piece p) l r m) in
      let wrote = wrote_more (texts (lines (in_piece p) l m)) out at out' own out'' end (record { is = a.text_is; end = a.ends })
      ends is in
      rw (tab-more i (record_of replay_size input))
      (record {
        carried_is = carries ∙ ap onward same ∙ sym (last_state (in_piece p) l r m);
        ends = wrote.end ∙ ap length text;
        text_is = wrote.is ∙ ap (λ t. over t out) text;
      })

-- what a record's answer carries on, and its line
pub carried_on : (last : ℕ) (x : Result Replayed Refusal) (bank map reasons : List ℕ)
    → carried bank map reasons (number_after x last) ≡ onward (replay_answered last x (bank ∷ map ∷ reasons ∷ []))
carried_on last (Ok a) bank map reasons = refl
carried_on last (Err e) bank map reasons = refl

pub line_on : (last : ℕ) (x : Result Replayed Refusal) (left : List (List ℕ)) → numbers_of x ≡ line_in (replay_answered last x left)
line_on last (Ok a) left = refl
line_on last (Err e) left = refl

-- a run that is refused
pub run_refused : (m : Carried) (input out : List ℕ) (p : Piece) (x : Result RunAnswer Refusal) (e : Refusal) → IsErrAnd x (λ f. f ≡ e)
    → number_of e ≡ first (run_tests m.bank m.map m.reasons input out)
    → run_answered m.last x (m.bank ∷ m.map ∷ m.reasons ∷ out ∷ []) ≡ run_call m input p out
unfolding run_call
run_refused m input out p x e h t = refused_call_or _ x e (run_tests m.bank m.map m.reasons input out) _ _ _ _ h t

-- A run that is lent whole buffers answers and leaves what its call says.
module _ (m : Carried) (input out : List ℕ) (w : AllLent m.bank m.map m.reasons) where
  pub run_left : first (run_tests m.bank m.map m.reasons input out) ≡ first (short_text input out ∷ [])
  run_left = all_lent m.bank m.map m.reasons (short_text input out ∷ []) w

  pub run_done : (p : Piece) (n end : ℕ) (m' : Carried) (out' : List ℕ) → 0 ≡ first (short_text input out ∷ [])
      → (m0 : Carried) → m0 ≡ m → RanTo p input m0 out m' out' n end
      → record {
        refusal = 0;
        numbers = n ∷ end ∷ m'.last ∷ [];
        buffers = m'.bank ∷ m'.map ∷ m'.reasons ∷ out' ∷ [];
      }
      ≡ run_call m input p out
  unfolding run_call
  run_done p n end m' out' z m0 start from =
      let r = subst (λ (x : Carried). RanTo p input x out m' out' n end) start from in
      let same = r.carried_is in
      (λ i. record {
        refusal = 0;
        numbers = n ∷ r.ends i ∷ (same i).last ∷ [];
        buffers = (same i).bank ∷ (same i).map ∷ (same i).reasons ∷ r.text_is i ∷ [];
      })
      ∙ (λ i. Of (r.count_is i))
      ∙ done_or_is (run_tests m.bank m.map m.reasons input out) _ _ _ _ (run_left ∙ sym z)
    where
      -- what n records answer and leave
      Of : ℕ → Outcome
      Of n =
          let l = first_records input n in
          let text = texts (lines (in_piece p) l m) in
          let m' = replayed (in_piece p) l m in
          record {
            refusal = 0;
            numbers = n ∷ length text ∷ m'.last ∷ [];
            buffers = m'.bank ∷ m'.map ∷ m'.reasons ∷ over text out ∷ [];
          }
