-- `replaying::single::replay_record` refuses, or does what the record says with exactly its stated part. Assumes nothing.
use mathlib.Core.Path.{◌≡◌, ap, ◌∙◌}
use mathlib.Core.List.{[], ◌∷◌}
use Rattle.std.specs.Array.{IsWholeChunk}
use Rattle.rules.specs.Calls.{AllLent}
use Rattle.rules.specs.Tile.{bank_size, written_size, reasons_size}
use Rattle.rules.specs.Replay.{carried, own_tests, replay_call}
use Rattle.rules.proofs.LentTests.{short_bank, short_map, short_reasons}
use Rattle.rdp.specs.Refused.{number_of}
use Rattle.rdp.specs.View.{replay_answered}
use Rattle.replaying.proofs.Lent.{not_lent, lent_array, all_arrays}
use Rattle.replaying.proofs.Outcomes.{refused_tested}
use Rattle.replaying.proofs.single.replay_record.Goals.{In_ok-bank, In_ok-written, In_ok-reasons}
use Rattle.replaying.proofs.OneRecord.{single_is}
use Rattle.replaying.proofs.single.replay_record.Goals as goal

-- the bank is whole, and as it was lent, and so are the others
bank : (c : In_ok-bank) → IsWholeChunk c.args.bank.now c.in_ok-bank.bank.now bank_size
bank c = lent_array _ _ c.as_mut_array.result c.in_ok-bank.bank c.in_ok-bank.ensures.value c.as_mut_array.ensures.cases

written : (c : In_ok-written) → IsWholeChunk c.args.written.now c.in_ok-written.written.now written_size
written c =
    lent_array _ _ c.as_mut_array-2.result c.in_ok-written.written c.in_ok-written.ensures.value c.as_mut_array-2.ensures.cases

reasons : (c : In_ok-reasons) → IsWholeChunk c.args.reasons.now c.in_ok-reasons.reasons.now reasons_size
reasons c =
    lent_array _ _ c.as_mut_array-3.result c.in_ok-reasons.reasons c.in_ok-reasons.ensures.value c.as_mut_array-3.ensures.cases

lent : (c : In_ok-reasons) → AllLent c.args.bank.now c.args.written.now c.args.reasons.now
    × (carried c.in_ok-bank.bank.now c.in_ok-written.written.now c.in_ok-reasons.reasons.now c.args.last
    ≡ carried c.args.bank.now c.args.written.now c.args.reasons.now c.args.last)
lent c =
    let before = goal.at.In_ok-reasons c in
    all_arrays _ _ _ _ _ _ c.args.last (bank before.In_ok-bank) (written before.In_ok-written) (reasons c)

pub returns-in_err-bank : goal.returns-in_err-bank
unfolding replay_call
returns-in_err-bank c =
    let a = c.args in
    let p = not_lent _ _ c.as_mut_array.result c.in_err-bank.field-0.0 c.in_err-bank.ensures.value c.as_mut_array.ensures.cases in
    refused_tested _ _ _ (carried a.bank.now a.written.now a.reasons.now a.last) _ _ c.from_residual.ensures.1
    (ap number_of p.0 ∙ short_bank a.bank.now a.written.now a.reasons.now (own_tests a.end a.bytes.now a.part.now a.last) p.1)

pub returns-in_err-written : goal.returns-in_err-written
unfolding replay_call
returns-in_err-written c =
    let a = c.args in
    let b = bank (goal.at.returns-in_err-written c).In_ok-bank in
    let p = not_lent _ _ c.as_mut_array-2.result c.in_err-written.field-0.0 c.in_err-written.ensures.value c.as_mut_array-2.ensures.cases in
    (λ i. replay_answered a.last c.from_residual-in_err-written.result (b.same i ∷ a.written.now ∷ a.reasons.now ∷ []))
    ∙ refused_tested _ _ _ (carried a.bank.now a.written.now a.reasons.now a.last) _ _ c.from_residual-in_err-written.ensures.1
    (ap number_of p.0 ∙ short_map a.bank.now a.written.now a.reasons.now (own_tests a.end a.bytes.now a.part.now a.last) b.long p.1)

pub returns-in_err-reasons : goal.returns-in_err-reasons
unfolding replay_call
returns-in_err-reasons c =
    let a = c.args in
    let b = bank (goal.at.returns-in_err-reasons c).In_ok-bank in
    let w = written (goal.at.returns-in_err-reasons c).In_ok-written in
    let p = not_lent _ _ c.as_mut_array-3.result c.in_err-reasons.field-0.0 c.in_err-reasons.ensures.value c.as_mut_array-3.ensures.cases in
    (λ i. replay_answered a.last c.from_residual-in_err-reasons.result (b.same i ∷ w.same i ∷ a.reasons.now ∷ []))
    ∙ refused_tested _ _ _ (carried a.bank.now a.written.now a.reasons.now a.last) _ _ c.from_residual-in_err-reasons.ensures.1
    (ap number_of p.0
    ∙ short_reasons a.bank.now a.written.now a.reasons.now (own_tests a.end a.bytes.now a.part.now a.last) b.long w.long p.1)

pub returns : goal.returns
returns c =
    let a = c.args in
    let k = (goal.at.returns c).In_ok-reasons in
    let m = carried a.bank.now a.written.now a.reasons.now a.last in
    rw c.unwrap_or.ensures
    (single_is m a.bytes.now a.end _ a.part.now (lent k).0 c.four_at.ensures _ (lent k).1 c.replay_next.result _ c.replay_next.ensures)
