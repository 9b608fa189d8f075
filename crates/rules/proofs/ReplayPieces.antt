-- The replay in pieces: of the companion file, of which a part is at hand, and of the input.
use mathlib.Core.Path.{◌≡◌, refl, ap, sym, ◌∙◌}
use mathlib.Core.Bool.{Bool, true, false, cond, not, ◌&&◌, ◌||◌, true≢false}
use mathlib.Core.List.{List, [], ◌∷◌, ◌++◌, append-nil}
use Prim.Native.Nat.{ℕ, zero, suc, ◌+◌, ◌-◌, ◌*◌, ◌/◌, ◌%◌, ◌<◌, ◌≤◌}
use native.Mathlib.Omega.{arith}
use native.Mathlib.Nat.{add-zero}
use native.Mathlib.Decide.{dec_lt}
use lib.Dec.{eqb, ltb, eqb-suc-zero}
use lib.ListN.{length, take, drop, length-append, take-append-drop, drop_of_length-le}
use lib.Seq.{length-take-le, drop-drop}
use borrow.Author.Tests.{ltb-false, not-true}
use Rattle.rules.specs.Base.{record_of}
use Rattle.rules.specs.Load.{following, ordinary}
use Rattle.rules.specs.Refusal.{Outcome, first, settle, call_or}
use Rattle.rules.specs.Calls.{left_by}
use Rattle.rules.specs.Replay.{replay_size, offset_in, size_in, asks_key, stores_in, record_tests, takes_part}
use Rattle.rules.specs.Replay.{Carried, lent_of, spent, count_of, left, last_of, tested, outcome, part_of, in_file}
use Rattle.rules.specs.Replay.{line_in, onward, replayed, lines, texts}
use Rattle.rules.specs.Replay.{record_count, first_records, records_in, Piece, at_hand, part_in, in_piece, ready}
use Rattle.rules.proofs.Ranges.{both}
use Rattle.rules.proofs.Refused.{first-append}
use Rattle.rules.proofs.ReplayTests.{tests_numbered}
use Rattle.rules.proofs.Records.{take-drop-take, records_append}
use Rattle.rules.proofs.Replay.{replayed-append, lines-append, texts-append}
use Rattle.rules.proofs.Tables.{length-tab, tab_none, take-tab}

-- A run takes its parts from a piece of the file.
pub record OfFile (file : List ℕ) (p : Piece) : Type 0 where
  pub end_is : p.end ≡ length file
  pub bytes_are : p.bytes ≡ take (length p.bytes) (drop p.start file)

-- where no part is taken, none matters
unread : (end : ℕ) (src other r : List ℕ) (m : Carried) → takes_part end r ≡ false → outcome end src r m ≡ outcome end other r m
unfolding outcome tested call_or settle left takes_part
unread end src other r m h =
    let tests = first-append (record_tests end r) (spent m.last r ∷ []) (tests_numbered end r) in
    rw tests (go (first (record_tests end r)) (asks_key r) h (first (spent m.last r ∷ [])))
  where
    -- what is settled with the bytes of a part, where the tests before the number's give n, and the number's gives w
    with_part : List ℕ → ℕ → Bool → ℕ → Outcome
    with_part part n k w =
        settle (cond (eqb n 0) w n) (count_of r m.bank ∷ last_of r m.last ∷ []) (0 ∷ m.last ∷ [])
        (cond k (lent_of m) (left_by part (stores_in r) (following m.last) ordinary m.bank m.map m.reasons))
        (lent_of m)

    go : (n : ℕ) (k : Bool) → (eqb n 0 && not k) ≡ false → (w : ℕ) → with_part src n k w ≡ with_part other n k w
    go zero true e w = refl
    go zero false e w = absurd (true≢false e)
    go (suc n) k e w = rw (eqb-suc-zero n)

piece_part : (file : List ℕ) (n s o size : ℕ) → s ≤ o → o + size ≤ s + n
    → take size (drop (o - s) (take n (drop s file))) ≡ take size (drop o file)
piece_part file n s o size h k =
    let e : s + (o - s) ≡ o = omega arith in
    rw (take-drop-take (o - s) n size (drop s file) (omega arith), drop-drop (o - s) s file, e)

module _ (file : List ℕ) (p : Piece) (of : OfFile file p) where
  -- a record whose part is at hand has the outcome that it has over the file
  pub at_hand-same : (r : List ℕ) (m : Carried) → at_hand p r ≡ true → in_piece p r m ≡ in_file file r m
  unfolding in_piece in_file at_hand part_in
  at_hand-same r m h = go (takes_part p.end r) refl h
    where
      own : List ℕ
      own = part_of r (drop (offset_in r) file)

      go : (b : Bool) → takes_part p.end r ≡ b
          → (not b || (not (ltb (offset_in r) p.start) && not (ltb (p.start + length p.bytes) (offset_in r + size_in r)))) ≡ true
          → outcome p.end (part_in p r) r m ≡ outcome (length file) own r m
      go false e h' = rw (← of.end_is) (unread p.end (part_in p r) own r m e)
      go true e h' =
          let near = both _ _ h' in
          let from = ltb-false (offset_in r) p.start (not-true _ near.0) in
          let to = ltb-false _ _ (not-true _ near.1) in
          let whole = piece_part file (length p.bytes) p.start (offset_in r) (size_in r) from to in
          let part : part_in p r ≡ own = rw (e, of.bytes_are) whole in
          rw (part, of.end_is)

  -- so the ready records of a list leave what they leave over the file, and print its lines
  pub ready-same : (l : List (List ℕ)) (m : Carried)
      → (replayed (in_piece p) (take (ready p l) l) m ≡ replayed (in_file file) (take (ready p l) l) m)
      × (lines (in_piece p) (take (ready p l) l) m ≡ lines (in_file file) (take (ready p l) l) m)
  unfolding replayed lines ready
  ready-same [] m = (refl, refl)
  ready-same (r ∷ l) m = go (at_hand p r) refl (ready-same l)
    where
      go : (b : Bool) → at_hand p r ≡ b
          → ((m : Carried) → (replayed (in_piece p) (take (ready p l) l) m ≡ replayed (in_file file) (take (ready p l) l) m)
          × (lines (in_piece p) (take (ready p l) l) m ≡ lines (in_file file) (take (ready p l) l) m))
          → let k = cond b (suc (ready p l)) 0 in
          (replayed (in_piece p) (take k (r ∷ l)) m ≡ replayed (in_file file) (take k (r ∷ l)) m)
          × (lines (in_piece p) (take k (r ∷ l)) m ≡ lines (in_file file) (take k (r ∷ l)) m)
      go false e ih = (refl, refl)
      go true e ih =
          let same = at_hand-same r m e in
          let rest = ih (onward (in_file file r m)) in (
            ap (λ o. replayed (in_piece p) (take (ready p l) l) (onward o)) same ∙ rest.0,
            ap (λ o. line_in o ∷ lines (in_piece p) (take (ready p l) l) (onward o)) same
                ∙ ap (λ ls. line_in (in_file file r m) ∷ ls) rest.1,
          )

-- The ready records of an input are its first ones.
ready_few : (p : Piece) (l : List (List ℕ)) → ready p l ≤ length l
unfolding ready
ready_few p [] = omega arith
ready_few p (r ∷ l) = go (at_hand p r) (ready_few p l)
  where
    go : (b : Bool) → ready p l ≤ length l → cond b (suc (ready p l)) 0 ≤ suc (length l)
    go true h = omega arith
    go false h = omega arith

pub ready_count : (p : Piece) (input : List ℕ) → ready p (records_in input) ≤ record_count input
ready_count p input = rw length-tab at (ready_few p (records_in input))

-- What a run prints and leaves is what its records print and leave over the file.
pub run_same : (file : List ℕ) (p : Piece) → OfFile file p → (input : List ℕ) (m : Carried)
    → let l = first_records input (ready p (records_in input)) in
    (replayed (in_piece p) l m ≡ replayed (in_file file) l m) × (lines (in_piece p) l m ≡ lines (in_file file) l m)
run_same file p of input m =
    let n : ℕ = ready p (records_in input) in
    let k : ℕ = record_count input in
    let few : n ≤ k = ready_count p input in
    let e : k ≡ n + (k - n) = omega arith in
    let own : take n (records_in input) ≡ first_records input n =
    ap (λ j. take n (first_records input j)) e ∙ take-tab n (k - n) (record_of replay_size input) in
    rw own at (ready-same file p of (records_in input) m)

-- The records of an input that is cut after n of them.
records_cut : (n : ℕ) (a b : List ℕ) → length a ≡ n * replay_size → records_in (a ++ b) ≡ records_in a ++ records_in b
records_cut n a b e =
    let own : record_count a ≡ n = omega arith in
    let all : record_count (a ++ b) ≡ n + record_count b = rw length-append (omega arith) in
    rw (all, own) (records_append replay_size n a b e (record_count b))

pub records_rest : (n : ℕ) (input : List ℕ) → n ≤ record_count input
    → records_in input ≡ first_records input n ++ records_in (drop (n * replay_size) input)
records_rest n input h = go (dec_lt (length input) (n * replay_size))
  where
    go : Dec (length input < n * replay_size) → records_in input ≡ first_records input n ++ records_in (drop (n * replay_size) input)
    go (yes l) =
        let last : record_count input ≡ n = omega arith in
        rw (drop_of_length-le input {i = n * replay_size} (omega arith), last, tab_none (record_of replay_size []), append-nil)
    go (no l) =
        let a = take (n * replay_size) input in
        let b = drop (n * replay_size) input in
        let e : length a ≡ n * replay_size = length-take-le (n * replay_size) input (omega (arith, l)) in
        let whole : a ++ b ≡ input = take-append-drop (n * replay_size) input in
        let own : record_count a ≡ n = omega arith in
        let first : first_records (a ++ b) n ≡ first_records a n =
        ap (λ k. first_records (a ++ b) k) (sym (add-zero n))
        ∙ records_append replay_size n a b e 0
        ∙ rw (tab_none (record_of replay_size b), append-nil) in
        ap records_in (sym whole)
        ∙ records_cut n a b e
        ∙ rw own (ap (λ l. l ++ records_in b) (sym first ∙ ap (λ x. first_records x n) whole))

-- An input in two pieces, of which the first ends with a whole record, prints the first piece's text and then the second's, over what
-- the first leaves; "lines of a prefix are a prefix of the lines".
module _ (step : List ℕ → Carried → Outcome) (a b : List ℕ) (whole : length a % replay_size ≡ 0) (m : Carried) where
  both_records : records_in (a ++ b) ≡ records_in a ++ records_in b
  both_records = records_cut (length a / replay_size) a b (omega arith)

  pub pieces_text : texts (lines step (records_in (a ++ b)) m)
      ≡ texts (lines step (records_in a) m) ++ texts (lines step (records_in b) (replayed step (records_in a) m))
  pieces_text = rw (both_records, lines-append, texts-append)

  pub pieces_state : replayed step (records_in (a ++ b)) m ≡ replayed step (records_in b) (replayed step (records_in a) m)
  pieces_state = rw (both_records, replayed-append)
