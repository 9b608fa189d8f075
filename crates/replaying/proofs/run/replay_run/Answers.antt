-- `replaying::run::replay_run` refuses, or replays the records that are ready. Assumes nothing.
use mathlib.Core.Path.{◌≡◌, ap, sym, ◌∙◌}
use mathlib.Core.List.{[], ◌∷◌}
use native.Mathlib.Omega.{arith}
use borrow.Author.Tests.{ltb-false}
use Rattle.std.specs.Array.{IsWholeChunk}
use Rattle.rules.specs.Calls.{AllLent}
use Rattle.rules.specs.Refusal.{first}
use Rattle.rules.specs.Tile.{bank_size, written_size, reasons_size}
use Rattle.rules.specs.Replay.{Carried, carried, piece, record_count, short_text}
use Rattle.rules.proofs.LentTests.{short_bank, short_map, short_reasons}
use Rattle.rules.proofs.Refused.{first_zero}
use Rattle.rdp.specs.Refused.{number_of}
use Rattle.rdp.specs.View.{run_answered}
use Rattle.replaying.proofs.Lent.{not_lent, lent_array, all_arrays}
use Rattle.replaying.proofs.Runs.{run_refused, run_left, run_done}
use Rattle.replaying.proofs.run.replay_run.Goals.{In_ok-bank, In_ok-written, In_ok-reasons, In_ok-refuse}
use Rattle.replaying.proofs.run.replay_run.Goals as goal

-- the bank is whole, and as it was lent, and so are the others
bank : (c : In_ok-bank) → IsWholeChunk c.args.bank.now c.in_ok-bank.bank.now bank_size
bank c = lent_array _ _ c.as_mut_array.result c.in_ok-bank.bank c.in_ok-bank.ensures.value c.as_mut_array.ensures.cases

written : (c : In_ok-written) → IsWholeChunk c.args.written.now c.in_ok-written.written.now written_size
written c =
    lent_array _ _ c.as_mut_array-2.result c.in_ok-written.written c.in_ok-written.ensures.value c.as_mut_array-2.ensures.cases

reasons : (c : In_ok-reasons) → IsWholeChunk c.args.reasons.now c.in_ok-reasons.reasons.now reasons_size
reasons c =
    lent_array _ _ c.as_mut_array-3.result c.in_ok-reasons.reasons c.in_ok-reasons.ensures.value c.as_mut_array-3.ensures.cases

lent : (c : In_ok-reasons) → AllLent c.args.bank.now c.args.written.now c.args.reasons.now
    × (carried c.in_ok-bank.bank.now c.in_ok-written.written.now c.in_ok-reasons.reasons.now c.args.last
    ≡ carried c.args.bank.now c.args.written.now c.args.reasons.now c.args.last)
lent c =
    let before = goal.at.In_ok-reasons c in
    all_arrays _ _ _ _ _ _ c.args.last (bank before.In_ok-bank) (written before.In_ok-written) (reasons c)

pub returns-in_err-bank : goal.returns-in_err-bank
returns-in_err-bank c =
    let a = c.args in
    let p = not_lent _ _ c.as_mut_array.result c.in_err-bank.field-0.0 c.in_err-bank.ensures.value c.as_mut_array.ensures.cases in
    run_refused (carried a.bank.now a.written.now a.reasons.now a.last) a.input.now a.out.now (piece a.end a.start a.held.now) _ _
    c.from_residual.ensures.1
    (ap number_of p.0 ∙ short_bank a.bank.now a.written.now a.reasons.now (short_text a.input.now a.out.now ∷ []) p.1)

pub returns-in_err-written : goal.returns-in_err-written
returns-in_err-written c =
    let a = c.args in
    let b = bank (goal.at.returns-in_err-written c).In_ok-bank in
    let p = not_lent _ _ c.as_mut_array-2.result c.in_err-written.field-0.0 c.in_err-written.ensures.value c.as_mut_array-2.ensures.cases in
    (λ i. run_answered a.last c.from_residual-in_err-written.result (b.same i ∷ a.written.now ∷ a.reasons.now ∷ a.out.now ∷ []))
    ∙ run_refused (carried a.bank.now a.written.now a.reasons.now a.last) a.input.now a.out.now (piece a.end a.start a.held.now) _ _
    c.from_residual-in_err-written.ensures.1
    (ap number_of p.0 ∙ short_map a.bank.now a.written.now a.reasons.now (short_text a.input.now a.out.now ∷ []) b.long p.1)

pub returns-in_err-reasons : goal.returns-in_err-reasons
returns-in_err-reasons c =
    let a = c.args in
    let b = bank (goal.at.returns-in_err-reasons c).In_ok-bank in
    let w = written (goal.at.returns-in_err-reasons c).In_ok-written in
    let p = not_lent _ _ c.as_mut_array-3.result c.in_err-reasons.field-0.0 c.in_err-reasons.ensures.value c.as_mut_array-3.ensures.cases in
    (λ i. run_answered a.last c.from_residual-in_err-reasons.result (b.same i ∷ w.same i ∷ a.reasons.now ∷ a.out.now ∷ []))
    ∙ run_refused (carried a.bank.now a.written.now a.reasons.now a.last) a.input.now a.out.now (piece a.end a.start a.held.now) _ _
    c.from_residual-in_err-reasons.ensures.1
    (ap number_of p.0 ∙ short_reasons a.bank.now a.written.now a.reasons.now (short_text a.input.now a.out.now ∷ []) b.long w.long p.1)

pub returns-in_err-refuse : goal.returns-in_err-refuse
returns-in_err-refuse c =
    let a = c.args in
    let k = (goal.at.returns-in_err-refuse c).In_ok-reasons in
    let m = carried a.bank.now a.written.now a.reasons.now a.last in
    let n : c.div_ceil.result ≡ record_count a.input.now = omega (arith, c.div_ceil.ensures) in
    let answer = c.from_residual-in_err-refuse.result in
    ap (λ (m' : Carried). run_answered a.last answer (m'.bank ∷ m'.map ∷ m'.reasons ∷ a.out.now ∷ [])) (lent k).1
    ∙ run_refused m a.input.now a.out.now (piece a.end a.start a.held.now) _ _ c.from_residual-in_err-refuse.ensures.1
    ((rw n at c.in_err-refuse.ensures) ∙ sym (run_left m a.input.now a.out.now (lent k).0))

-- there is room for the lines
room : (c : In_ok-refuse) → 0 ≡ first (short_text c.args.input.now c.args.out.now ∷ [])
room c =
    let n : c.div_ceil.result ≡ record_count c.args.input.now = omega (arith, c.div_ceil.ensures) in
    rw n at c.in_ok-refuse.ensures

pub replay_ready-requires : goal.replay_ready-requires
replay_ready-requires c =
    let r = room (goal.at.replay_ready-requires c).In_ok-refuse in
    ltb-false _ _ (first_zero (short_text c.args.input.now c.args.out.now) [] (λ e. omega arith) (sym r)).0

pub returns : goal.returns
returns c =
    let a = c.args in
    let k = (goal.at.returns c).In_ok-reasons in
    let m = carried a.bank.now a.written.now a.reasons.now a.last in
    run_done m a.input.now a.out.now (lent k).0 (piece a.end a.start a.held.now) _ _ _ _ (room (goal.at.returns c).In_ok-refuse) _
    (lent k).1 c.replay_ready.ensures
