-- `replaying::run::replay_next` gives the record the bytes of the piece that it takes. Assumes nothing.
use mathlib.Core.Path.{◌≡◌, refl, ap, ◌∙◌}
use mathlib.Core.Bool.{true}
use mathlib.Core.List.{[]}
use Rattle.std.specs.Prelude.{Err}
use Rattle.rules.specs.Replay.{outcome, carried, takes_part}
use Rattle.rdp.proofs.Refusals.{numbered}
use Rattle.replaying.proofs.ByTests.{refused_step, key_step, load_step}
use Rattle.replaying.proofs.Held.{none_missing, none_taken, part_held, part_missing, part_taken, refused_takes, key_takes, load_takes}
use Rattle.replaying.proofs.Outcomes.{refused_tested, key_tested, load_tested}
use Rattle.replaying.proofs.Says.{said_key, said_load}
use Rattle.replaying.specs.Said.{SaysLoad, piece_of}
use Rattle.replaying.proofs.run.replay_next.Goals.{In-Ok-Load}
use Rattle.replaying.proofs.run.replay_next.Goals as goal

pub returns-in-Err : goal.returns-in-Err
unfolding outcome
returns-in-Err c =
    let a = c.args in
    let r = a.bytes.now in
    let m = carried a.bank.now a.written.now a.reasons.now a.last in
    let no = numbered c.in-Err.refusal in
    let takes = refused_takes _ r _ c.in-Err.ensures.refused no in (
      none_missing _ r takes,
      refused_tested _ [] r m (Err c.in-Err.refusal) c.in-Err.refusal refl
          (refused_step a.piece.end r a.last _ c.in-Err.ensures.refused no)
          ∙ none_taken _ r takes m,
    )

pub returns-in-Ok-Key : goal.returns-in-Ok-Key
unfolding outcome
returns-in-Ok-Key c =
    let a = c.args in
    let r = a.bytes.now in
    let m = carried a.bank.now a.written.now a.reasons.now a.last in
    let says = said_key r _ c.in-Ok-Key.picture c.in-Ok-Key.field-0-is c.in-Ok-Key.ensures.said in
    let takes = key_takes a.piece.end r says.key in
    let k = c.answer_key.ensures in (
      none_missing _ r takes,
      key_tested _ [] r m _ _ _ says (key_step a.piece.end r a.last c.in-Ok-Key.ensures.refused says.key) k.count k.number
          ∙ none_taken _ r takes m,
    )

-- the record's load takes its part
says : (c : In-Ok-Load) → SaysLoad c.args.bytes.now c.in-Ok-Load.asks
says c = said_load c.args.bytes.now _ c.in-Ok-Load.asks c.in-Ok-Load.field-0-is c.in-Ok-Load.ensures.said

takes : (c : In-Ok-Load) → takes_part c.args.piece.end c.args.bytes.now ≡ true
takes c = load_takes _ _ c.in-Ok-Load.ensures.refused (says c).no_key

pub returns-in_err-src-in-Ok-Load : goal.returns-in_err-src-in-Ok-Load
returns-in_err-src-in-Ok-Load c =
    let k = (goal.at.returns-in_err-src-in-Ok-Load c).In-Ok-Load in
    let s = says k in
    let outside = rw (s.offset_is, s.size_is) at c.in_err-src-in-Ok-Load.ensures in
    rw c.from_residual.ensures (part_missing (piece_of c.args.piece) c.args.bytes.now (takes k) outside, refl)

pub returns-in_ok-src-in-Ok-Load : goal.returns-in_ok-src-in-Ok-Load
unfolding outcome
returns-in_ok-src-in-Ok-Load c =
    let a = c.args in
    let r = a.bytes.now in
    let m = carried a.bank.now a.written.now a.reasons.now a.last in
    let k = (goal.at.returns-in_ok-src-in-Ok-Load c).In-Ok-Load in
    let s = says k in
    let part = rw (s.offset_is, s.size_is) at c.in_ok-src-in-Ok-Load.ensures in (
      part_held (piece_of a.piece) r (takes k) part.0.0 part.0.1,
      c.carry_out.ensures
          ∙ load_tested _ _ r m _ s (load_step a.piece.end r a.last c.in-Ok-Load.ensures.refused)
          ∙ ap (λ src. outcome a.piece.end src r m) part.1
          ∙ part_taken (piece_of a.piece) r (takes k) m,
    )
