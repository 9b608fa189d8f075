-- What a caller of `replay_run` knows, on every input: it did no more records than the input has, and wrote inside the buffer.
use mathlib.Core.Path.{◌≡◌, refl, ap, ◌∙◌}
use mathlib.Core.List.{List, [], ◌∷◌}
use Prim.Native.Nat.{ℕ, zero, suc, ◌≤◌}
use native.Mathlib.Omega.{arith}
use lib.ListN.{length, get_or}
use Rattle.rules.specs.Base.{over}
use Rattle.rules.specs.Refusal.{Outcome, first, settle, call_or}
use Rattle.rules.specs.Replay.{Carried, Piece, in_piece, lines, texts, first_records, record_count, records_in, ready}
use Rattle.rules.specs.Replay.{run_tests, run_call}
use Rattle.rules.proofs.ReplayPieces.{ready_count}
use Rattle.decimal.proofs.Writes.{over_within}

module _ (m : Carried) (input : List ℕ) (p : Piece) (out : List ℕ) where
  n : ℕ
  n = ready p (records_in input)

  text : List ℕ
  text = texts (lines (in_piece p) (first_records input n) m)

  settled : (k after : ℕ) (left : List (List ℕ)) (o : Outcome)
      → o ≡ settle k (n ∷ length text ∷ after ∷ []) (0 ∷ 0 ∷ m.last ∷ []) left (m.bank ∷ m.map ∷ m.reasons ∷ out ∷ [])
      → length (get_or o.buffers 3 []) ≡ length out → get_or left 3 [] ≡ over text out
      → (get_or o.numbers 0 0 ≤ record_count input) × (get_or o.numbers 1 0 ≤ length out)
  unfolding settle n
  settled zero after left o e same is =
      let few = ready_count p input in
      let r = ap (λ (o : Outcome). get_or o.numbers 0 0) e in
      let t = ap (λ (o : Outcome). get_or o.numbers 1 0) e in
      let b = ap (λ (o : Outcome). get_or o.buffers 3 []) e ∙ is in
      let l = over_within text out (get_or o.buffers 3 []) b same in
      (omega arith, omega arith)
  settled (suc k) after left o e same is =
      let r = ap (λ (o : Outcome). get_or o.numbers 0 0) e in
      let t = ap (λ (o : Outcome). get_or o.numbers 1 0) e in
      (omega arith, omega arith)

  pub ran_inside : (refusal records end number : ℕ) (bank' map' reasons' out' : List ℕ)
      → record { refusal = refusal; numbers = records ∷ end ∷ number ∷ []; buffers = bank' ∷ map' ∷ reasons' ∷ out' ∷ [] }
      ≡ run_call m input p out
      → length out' ≡ length out → (records ≤ record_count input) × (end ≤ length out)
  unfolding run_call call_or text n
  ran_inside refusal records end number bank' map' reasons' out' answer same =
      settled (first (run_tests m.bank m.map m.reasons input out)) _ _ _ answer same refl
