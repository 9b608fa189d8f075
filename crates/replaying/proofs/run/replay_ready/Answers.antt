-- `replaying::run::replay_ready` replays a record a turn, and writes its line where the ones before it end. Assumes nothing.
use mathlib.Core.Path.{◌≡◌, ap, sym, ◌∙◌}
use mathlib.Core.List.{List, []}
use Prim.Native.Nat.{ℕ, ◌+◌, ◌*◌, ◌<◌}
use mathlib.Core.List.{◌++◌}
use native.Mathlib.Omega.{arith}
use lib.ListN.{length, get_or, take, length-drop}
use Rattle.std.specs.Slice.Iter.{chunks_rest, chunks_size}
use Rattle.rules.specs.Base.{record_of, over}
use Rattle.rules.specs.Lister.{line_text}
use Rattle.rules.specs.Replay.{replay_size, carried, at_hand, in_piece, line_in, onward, record_count}
use Rattle.replaying.specs.Said.{piece_of}
use Rattle.replaying.proofs.Chunks.{chunk_is, after_is, inside}
use Rattle.replaying.proofs.Ready.{ahead_start, ahead_stop, ahead_more, ahead_end}
use Rattle.replaying.proofs.Runs.{run_none, run_more, carried_on, line_on}
use Rattle.replaying.proofs.run.replay_ready.Goals.{In-Some}
use Rattle.replaying.proofs.run.replay_ready.Goals as goal

-- the turn's record is one of the input's
here : (c : In-Some) → c.loop-bytes.run.records < record_count c.args.input.now
here c =
    let inv = c.loop-bytes.invariant in
    let steps = c.in-Some.ensures.steps in
    inside c.args.input.now c.loop-bytes.run.records _ _ _ inv.rest steps.1.0 (rw inv.size at steps.1.1) steps.1.2

own : (c : In-Some) → c.in-Some.bytes.now ≡ record_of replay_size c.args.input.now c.loop-bytes.run.records
own c =
    let inv = c.loop-bytes.invariant in
    let steps = c.in-Some.ensures.steps in
    chunk_is c.args.input.now c.loop-bytes.run.records _ _ _ inv.rest steps.1.0 (rw inv.size at steps.1.1)

pub loop-bytes-init : goal.loop-bytes-init
loop-bytes-init c =
    let e = c.into_iter-bytes-iterator.ensures.into_iter_gives in
    let chunks = c.chunks-bytes-items.ensures in
    record {
      rest = ap chunks_rest e ∙ chunks.rest;
      size = ap chunks_size e ∙ chunks.size;
      few = omega arith;
      near = omega arith;
      ahead = ahead_start _ _ _;
      sofar = run_none _ _ _ _;
    }

pub loop-bytes-preserved : goal.loop-bytes-preserved
loop-bytes-preserved c =
    let k = (goal.at.loop-bytes-preserved c).In-Some in
    let inv = c.loop-bytes.invariant in
    let steps = c.in-Some.ensures.steps in
    let n = c.loop-bytes.run.records in
    let p = piece_of c.args.piece in
    let input = c.args.input.now in
    let at = c.loop-bytes.run.end in
    let out = c.loop-bytes.out in
    let m = carried c.loop-bytes.bank c.loop-bytes.written c.loop-bytes.reasons c.loop-bytes.run.number in
    let next = c.in-Some-replay_next.ensures in
    let o = next.1 ∙ ap (λ r. in_piece p r m) (own k) in
    let line = line_on c.loop-bytes.run.number c.in-Some-replay_next.answer _ ∙ ap line_in o in
    let t = c.put_line.ensures in
    record {
      rest = after_is input n _ _ _ inv.rest steps.1.0 (rw inv.size at steps.1.1);
      size = steps.0 ∙ inv.size;
      few = omega (arith, here k);
      near = omega (arith, t.upper_bound, inv.near);
      ahead = ahead_more p (record_of replay_size input) (record_count input) n (here k) inv.ahead (sym (ap (at_hand p) (own k)) ∙ next.0);
      sofar = run_more p input _ _ n _ _ _ _ _ _ inv.sofar
          (rw c.number_after.ensures (carried_on c.loop-bytes.run.number c.in-Some-replay_next.answer _ _ _) ∙ ap onward o)
          (t.value ∙ ap (λ l. at + length (line_text l)) line)
          (t.out_after ∙ ap (λ l. over (take at out ++ line_text l) out) line);
    }

pub returns-in_default : goal.returns-in_default
returns-in_default c =
    let k = (goal.at.returns-in_default c).In-Some in
    let inv = c.loop-bytes.invariant in
    let p = piece_of c.args.piece in
    let none = c.in_default.ensures in
    record {
      count_is = ahead_stop p (record_of replay_size c.args.input.now) _ _ (here k) inv.ahead (sym (ap (at_hand p) (own k)) ∙ none.0);
      carried_is = ap (λ (l : List (List ℕ)). carried (get_or l 0 []) (get_or l 1 []) (get_or l 2 []) c.loop-bytes.run.number) none.1
          ∙ inv.sofar.carried_is;
      ends = inv.sofar.ends;
      text_is = inv.sofar.text_is;
    }

pub returns : goal.returns
returns c =
    let inv = c.loop-bytes.invariant in
    let n = c.loop-bytes.run.records in
    let input = c.args.input.now in
    let p = piece_of c.args.piece in
    let none = c.in-None.ensures.steps.1.0 in
    let all : n ≡ record_count input =
    omega (arith, ap length inv.rest, length-drop (n * replay_size) input, none, inv.few) in
    record {
      count_is = all ∙ ahead_end p (record_of replay_size input) (record_count input) (rw all at inv.ahead);
      carried_is = inv.sofar.carried_is;
      ends = inv.sofar.ends;
      text_is = inv.sofar.text_is;
    }
