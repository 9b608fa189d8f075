-- `decoder::decode::decode_picture` answers and leaves what the call's outcome says: refused, or the rows written and their reads counted.
use Rattle.decoder.proofs.Outcomes.{refused, done}
use Rattle.decoder.proofs.Plans.{PlanOf, made, each_of, texels_of, room_of, rows_made, picture_room, trail_room}
use Rattle.decoder.proofs.Refusals.{bank_refused, pair_refused, room_decides}
use Rattle.rdp.specs.View.{tile_of}
use mathlib.Core.Path.{sym, ◌∙◌}
use Rattle.decoder.proofs.decode.decode_picture.Goals.{After-new-plan}
use Rattle.decoder.proofs.decode.decode_picture.Goals as goal

-- the plan is that of what was asked for
plan : (c : After-new-plan) → let k = c.args.asked in PlanOf c.new-plan.result k.tile k.tlut_fmt k.lane k.lookup k.observe
plan c = made _ c.new-plan.ensures.picture c.in_ok-picture.ensures.kept c.new-plan.ensures.lookup c.new-plan.ensures.observe

pub returns-in_err-whole : goal.returns-in_err-whole
returns-in_err-whole c =
    let a = c.args in
    let k = a.asked in
    refused k.lookup a.bank.now (tile_of k.tile) k.tlut_fmt k.lane a.out.now a.seen.now k.observe _ _ c.from_residual.ensures.1
    (bank_refused k.observe k.lookup a.bank.now (tile_of k.tile) k.tlut_fmt k.lane a.out.now a.seen.now _ c.in_err-whole.ensures.refused)

pub returns-in_err-picture : goal.returns-in_err-picture
returns-in_err-picture c =
    let a = c.args in
    let k = a.asked in
    refused k.lookup a.bank.now (tile_of k.tile) k.tlut_fmt k.lane a.out.now a.seen.now k.observe _ _
    c.from_residual-in_err-picture.ensures.1
    (pair_refused k.observe k.lookup a.bank.now (tile_of k.tile) k.tlut_fmt k.lane a.out.now a.seen.now _ c.in_ok-whole.ensures.refused
    c.in_err-picture.ensures.refused)

pub returns-in_err-reads : goal.returns-in_err-reads
returns-in_err-reads c =
    let a = c.args in
    let k = a.asked in
    let w = plan (goal.at.returns-in_err-reads c).After-new-plan in
    refused k.lookup a.bank.now (tile_of k.tile) k.tlut_fmt k.lane a.out.now a.seen.now k.observe _ _
    c.from_residual-in_err-reads.ensures.1
    (room_decides k.observe k.lookup a.bank.now (tile_of k.tile) k.tlut_fmt k.lane a.out.now a.seen.now _ c.in_ok-whole.ensures.refused
    c.in_ok-picture.ensures.refused (c.in_err-reads.ensures.refused ∙ room_of w a.out.now a.seen.now))

pub paint-requires : goal.paint-requires
paint-requires c = record {
  rows_in_bounds = picture_room c.new-plan.result c.args.out.now c.args.seen.now c.in_ok-reads.ensures.refused;
  rows_in_bounds_2 = trail_room c.new-plan.result c.args.out.now c.args.seen.now c.in_ok-reads.ensures.refused;
}

pub returns : goal.returns
returns c =
    let a = c.args in
    let k = a.asked in
    let w = plan (goal.at.returns c).After-new-plan in
    let none = room_decides k.observe k.lookup a.bank.now (tile_of k.tile) k.tlut_fmt k.lane a.out.now a.seen.now 0
    c.in_ok-whole.ensures.refused c.in_ok-picture.ensures.refused (c.in_ok-reads.ensures.refused ∙ room_of w a.out.now a.seen.now) in
    done k.lookup a.bank.now (tile_of k.tile) k.tlut_fmt k.lane a.out.now a.seen.now k.observe _ _ _ (sym none)
    (c.in_ok-reads.ensures.reads ∙ rw (each_of w, texels_of w))
    (rw (rows_made w, c.in_ok-whole.ensures.same) at c.paint.ensures.out_after)
    (rw (rows_made w, c.in_ok-whole.ensures.same, w.observe_is) at c.paint.ensures.seen_after)
