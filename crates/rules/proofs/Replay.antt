-- Laws of the replay: its end state, what a refused record and a key leave, and what every bank along the way keeps.
use mathlib.Core.Path.{◌≡◌, refl, ap, sym, ◌∙◌}
use mathlib.Core.Bool.{Bool, true, false, cond, not, ◌&&◌, true≢false}
use mathlib.Core.List.{List, [], ◌∷◌, ◌++◌, append_assoc}
use Prim.Native.Nat.{ℕ, zero, suc, ◌+◌, ◌<◌, ◌≤◌}
use native.Mathlib.Omega.{arith}
use native.Mathlib.Decide.{ℕ_discrete, dec_lt}
use lib.Dec.{eqb}
use lib.ListN.{length, get_or, set, replicate, take, drop, length-take, get_or-eq_default, length-replicate, get_or-replicate}
use lib.Seq.{get_or-take, get_or-drop, get_or-set_same, get_or-set_other, set_out}
use borrow.Author.Tests.{eq-eqb, eqb-true, not-false, not-true}
use Rattle.rules.specs.Tile.{bank_size, written_size, reasons_size}
use Rattle.rules.specs.Load.{Store, stored, written, following, ordinary, reason_left, reasoned}
use Rattle.rules.specs.Key.{kept_count, Bytes}
use Rattle.rules.specs.Refusal.{Test, Outcome, first, settle, call_or}
use Rattle.rules.specs.Calls.{left_by}
use Rattle.rules.specs.Lister.{line_text}
use Rattle.rules.specs.Replay.{lane_in, tile_in, mode_in, offset_in, size_in, asks_key, stores_in}
use Rattle.rules.specs.Replay.{Carried, carried, fresh, lent_of, count_of, left, last_of, tested, step_tests, outcome, part_of, in_file}
use Rattle.rules.specs.Replay.{line_in, onward, replayed, lines, texts}
use Rattle.rules.proofs.Loads.{length-stored, length-written}
use Rattle.rules.proofs.Reasons.{length-reasoned}
use Rattle.rules.proofs.Ranges.{both}
use Rattle.rules.proofs.Refused.{call_or_refusal}
use Rattle.rules.proofs.ReplayTests.{number-left}

-- Records one after the other, whatever a record's outcome is.
module _ (step : List ℕ → Carried → Outcome) where
  -- records after others go on from where those end
  pub replayed-append : (l k : List (List ℕ)) (m : Carried) → replayed step (l ++ k) m ≡ replayed step k (replayed step l m)
  unfolding replayed
  replayed-append [] k m = refl
  replayed-append (r ∷ l) k m = replayed-append l k _

  -- the lines of a prefix are a prefix of the lines
  pub lines-append : (l k : List (List ℕ)) (m : Carried) → lines step (l ++ k) m ≡ lines step l m ++ lines step k (replayed step l m)
  unfolding replayed lines
  lines-append [] k m = refl
  lines-append (r ∷ l) k m = ap (λ ls. line_in (step r m) ∷ ls) (lines-append l k _)

pub texts-append : (l k : List (List ℕ)) → texts (l ++ k) ≡ texts l ++ texts k
unfolding texts
texts-append [] k = refl
texts-append (x ∷ l) k = ap (λ t. line_text x ++ t) (texts-append l k) ∙ sym (append_assoc (line_text x) (texts l) (texts k))

-- what a load that is carried out leaves
abbrev pub after_load : List ℕ → List ℕ → Carried → Carried
after_load src r m =
    carried (stored src (stores_in r) m.bank) (written (following m.last) (stores_in r) m.map)
    (reasoned (reason_left ordinary) (stores_in r) m.reasons) (following m.last)

-- What a record leaves, by its refusal.
module _ (end : ℕ) (src r : List ℕ) (m : Carried) where
  abbrev tests : List Test
  tests = step_tests end r m.last

  pub refusal_of : (outcome end src r m).refusal ≡ first tests
  unfolding outcome tested
  refusal_of = call_or_refusal tests _ _ _ _

  -- "a refused record changes nothing"
  pub refused_keeps : ((outcome end src r m).refusal ≡ 0 → ⊥) → onward (outcome end src r m) ≡ m
  unfolding outcome tested call_or settle
  refused_keeps h = go (first tests) (λ e. h (refusal_of ∙ e))
    where
      go : (n : ℕ) → (n ≡ 0 → ⊥)
          → onward (settle n (count_of r m.bank ∷ last_of r m.last ∷ []) (0 ∷ m.last ∷ []) (left src r m) (lent_of m)) ≡ m
      go zero z = absurd (z refl)
      go (suc n) z = refl

  -- a key changes nothing
  pub key_keeps : asks_key r ≡ true → onward (outcome end src r m) ≡ m
  unfolding outcome tested call_or settle left
  key_keeps e = go (first tests) (asks_key r) e
    where
      go : (n : ℕ) (k : Bool) → k ≡ true
          → onward (settle n (count_of r m.bank ∷ cond k m.last (following m.last) ∷ []) (0 ∷ m.last ∷ [])
          (cond k (lent_of m) (left_by src (stores_in r) (following m.last) ordinary m.bank m.map m.reasons))
          (lent_of m)) ≡ m
      go zero true h = refl
      go zero false h = absurd (true≢false (sym h))
      go (suc n) k h = refl

  -- and its line has the kept count of the bank as it stands
  pub key_line : asks_key r ≡ true → (outcome end src r m).refusal ≡ 0
      → line_in (outcome end src r m) ≡ 0 ∷ kept_count (tile_in r) (mode_in r) (lane_in r) m.bank ∷ []
  unfolding outcome tested call_or settle count_of
  key_line e h = rw (sym refusal_of ∙ h, e)

  -- a load stores its list from the part, takes the number that follows, and clears the reasons where it stores
  pub load_leaves : asks_key r ≡ false → (outcome end src r m).refusal ≡ 0 → onward (outcome end src r m) ≡ after_load src r m
  unfolding outcome tested call_or settle left
  load_leaves e h = rw (sym refusal_of ∙ h, e)

  -- its line has the count of its stores
  pub load_line : asks_key r ≡ false → (outcome end src r m).refusal ≡ 0 → line_in (outcome end src r m) ≡ 0 ∷ length (stores_in r) ∷ []
  unfolding outcome tested call_or settle count_of
  load_line e h = rw (sym refusal_of ∙ h, e)

-- "The end state must be that of the loads done in file order": the loads that were done, which no test refused
module _ (file : List ℕ) where
  unfoldable pub loads : List ℕ → ℕ → Bool
  loads r last = eqb (first (step_tests (length file) r last)) 0 && not (asks_key r)

  unfoldable pub done : List (List ℕ) → Carried → List (List ℕ)
  done [] m = []
  done (r ∷ l) m = cond (loads r m.last) (r ∷ done l (onward (in_file file r m))) (done l m)

  module _ (r : List ℕ) (m : Carried) where
    abbrev pub own : List ℕ
    own = part_of r (drop (offset_in r) file)

    pub not_done_keeps : loads r m.last ≡ false → onward (in_file file r m) ≡ m
    unfolding in_file loads
    not_done_keeps h = go (ℕ_discrete (first (step_tests (length file) r m.last)) 0)
      where
        go : Dec (first (step_tests (length file) r m.last) ≡ 0) → onward (outcome (length file) own r m) ≡ m
        go (yes e) = key_keeps (length file) own r m (not-false (asks_key r) (rw (eq-eqb _ _ e) at h))
        go (no e) = refused_keeps (length file) own r m (λ z. e (sym (refusal_of (length file) own r m) ∙ z))

    pub done_leaves : loads r m.last ≡ true → onward (in_file file r m) ≡ after_load own r m
    unfolding in_file loads
    done_leaves h =
        let b = both (eqb (first (step_tests (length file) r m.last)) 0) (not (asks_key r)) h in
        load_leaves (length file) own r m (not-true (asks_key r) b.1) (refusal_of (length file) own r m ∙ eqb-true _ _ b.0)

  pub end_state : (l : List (List ℕ)) (m : Carried) → replayed (in_file file) l m ≡ replayed (in_file file) (done l m) m
  unfolding replayed done
  end_state [] m = refl
  end_state (r ∷ l) m = go (loads r m.last) refl (end_state l)
    where
      go : (b : Bool) → loads r m.last ≡ b → ((n : Carried) → replayed (in_file file) l n ≡ replayed (in_file file) (done l n) n)
          → replayed (in_file file) l (onward (in_file file r m))
          ≡ replayed (in_file file) (cond b (r ∷ done l (onward (in_file file r m))) (done l m)) m
      go true e ih = ih (onward (in_file file r m))
      go false e ih = rw (not_done_keeps r m e) (ih m)

-- What the buffers and the number along a replay keep: the lengths, that the bank is of bytes, and that the number is one of two bytes.
pub record Sound (m : Carried) : Type 0 where
  pub bank_size : length m.bank ≡ bank_size
  pub map_size : length m.map ≡ written_size
  pub reasons_size : length m.reasons ≡ reasons_size
  pub bytes : Bytes m.bank
  pub last_in : m.last ≤ 65535

zero_bytes : (n : ℕ) → Bytes (replicate n 0)
unfolding Bytes
zero_bytes n i = go (dec_lt i n)
  where
    go : Dec (i < n) → get_or (replicate n 0) i 0 < 256
    go (yes h) = rw (get_or-replicate {A = ℕ} n i 0 0 h) (omega arith)
    go (no h) = rw (get_or-eq_default {A = ℕ} (replicate n 0) 0 {n = i} (rw length-replicate (omega (arith, h)))) (omega arith)

pub fresh_sound : Sound fresh
fresh_sound =
    record {
      bank_size = length-replicate {A = ℕ} bank_size 0;
      map_size = length-replicate {A = ℕ} written_size 0;
      reasons_size = length-replicate {A = ℕ} reasons_size 0;
      bytes = zero_bytes bank_size;
      last_in = omega arith;
    }

set_bytes : (l : List ℕ) (i v : ℕ) → v < 256 → Bytes l → Bytes (set l i v)
unfolding Bytes
set_bytes l i v h s k = go (dec_lt i (length l)) (ℕ_discrete k i)
  where
    go : Dec (i < length l) → Dec (k ≡ i) → get_or (set l i v) k 0 < 256
    go (no out) _ = rw (set_out l i v (omega (arith, out))) (s k)
    go (yes p) (yes e) = rw (e, get_or-set_same l i v 0 p) h
    go (yes p) (no e) = rw (get_or-set_other l i k v 0 e) (s k)

stored_bytes : (src : List ℕ) (l : List Store) (bank : List ℕ) → Bytes src → Bytes bank → Bytes (stored src l bank)
unfolding stored Bytes
stored_bytes src [] bank s b = b
stored_bytes src (x ∷ l) bank s b = stored_bytes src l _ s (set_bytes bank x.at (get_or src x.from 0) (s x.from) b)

part_bytes : (n o : ℕ) (l : List ℕ) → Bytes l → Bytes (take n (drop o l))
unfolding Bytes
part_bytes n o l s i = go (dec_lt i n)
  where
    go : Dec (i < n) → get_or (take n (drop o l)) i 0 < 256
    go (yes h) = rw (get_or-take n (drop o l) i 0 h, get_or-drop) (s (o + i))
    go (no h) = rw (get_or-eq_default (take n (drop o l)) 0 {n = i} (rw length-take (omega (arith, h)))) (omega arith)

pub outcome_sound : (end : ℕ) (src r : List ℕ) (m : Carried) → Bytes src → Sound m → Sound (onward (outcome end src r m))
outcome_sound end src r m s h = go (ℕ_discrete (outcome end src r m).refusal 0) (asks_key r) refl
  where
    go : Dec ((outcome end src r m).refusal ≡ 0) → (b : Bool) → asks_key r ≡ b → Sound (onward (outcome end src r m))
    go (no n) _ _ = rw (refused_keeps end src r m n) h
    go (yes e) true k = rw (key_keeps end src r m k) h
    go (yes e) false k =
        rw (load_leaves end src r m k e)
        (record {
          bank_size = length-stored src (stores_in r) m.bank ∙ h.bank_size;
          map_size = length-written (following m.last) (stores_in r) m.map ∙ h.map_size;
          reasons_size = length-reasoned (reason_left ordinary) (stores_in r) m.reasons ∙ h.reasons_size;
          bytes = stored_bytes src (stores_in r) m.bank s h.bytes;
          last_in = omega (arith, number-left end r m.last k (sym (refusal_of end src r m) ∙ e));
        })

-- Demand 3 at each record: its theorems ask of a bank just this, so they hold of the bank as it stands after any records.
pub stands : (file : List ℕ) (l : List (List ℕ)) (m : Carried) → Bytes file → Sound m → Sound (replayed (in_file file) l m)
unfolding replayed in_file
stands file [] m s h = h
stands file (r ∷ l) m s h =
    stands file l _ s (outcome_sound (length file) _ r m (part_bytes (size_in r) (offset_in r) file s) h)
