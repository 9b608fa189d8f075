-- `decoder::painter::Painter::put_row` writes one texel after the other, each through the part that starts where the ones before it end.
use Rattle.rules.proofs.Formats.{accepted-known}
use Rattle.decoder.proofs.Plans.{narrow_plan}
use Rattle.decoder.proofs.Placed.{row_given, row_told}
use Rattle.rules.proofs.Parts.{begins, again, room, part_ends}
use Rattle.decoder.specs.Rows.{placing, row_of}
use lib.ListN.{length}
use native.Mathlib.Omega.{arith}
use Prim.Native.Nat.{◌+◌, ◌*◌, ◌<◌, ◌≤◌}
use mathlib.Core.Path.{◌≡◌, refl}
use Rattle.decoder.proofs.painter.Painter.put_row.Goals.{At-loop-i}
use Rattle.decoder.proofs.painter.Painter.put_row.Goals as goal

-- the function's entry, its step, and where the trail of a texel ends
same_step : (c : At-loop-i) → c.args.step ≡ c.args.self.plan.step
same_step c = c.requires.observe_value.1

ends : (c : At-loop-i) → c.loop-i.i < c.args.self.plan.width
    → c.args.step * c.loop-i.i + c.args.step ≤ length c.loop-i.seen
ends c h = rw (same_step c) (omega (arith, part_ends c.args.self.plan.step c.loop-i.i c.args.self.plan.width h))

pub loop-i-init : goal.loop-i-init
loop-i-init c =
    let a = c.args in (
      omega arith,
      begins (row_given a.self.plan a.self.bank.now (placing a.row) 0 (accepted-known _ _ _ a.self.plan.picture.pair_accepted)) _,
      begins (row_told a.self.plan a.self.bank.now (placing a.row) 0 a.self.plan.step_is) _,
      refl,
      refl,
    )

pub overflow_mul-s : goal.overflow_mul-s
overflow_mul-s c = omega (arith, ends (goal.at.overflow_mul-s c).At-loop-i (omega arith))

pub slice_bounds-put_texel-count-in-loop-i : goal.slice_bounds-put_texel-count-in-loop-i
slice_bounds-put_texel-count-in-loop-i c =
    omega (arith, ends (goal.at.slice_bounds-put_texel-count-in-loop-i c).At-loop-i (omega arith))

pub slice_bounds-put_texel-start-in-loop-i : goal.slice_bounds-put_texel-start-in-loop-i
slice_bounds-put_texel-start-in-loop-i c =
    omega (arith, ends (goal.at.slice_bounds-put_texel-start-in-loop-i c).At-loop-i (omega arith))

pub slice_bounds-put_texel-end-in-loop-i : goal.slice_bounds-put_texel-end-in-loop-i
slice_bounds-put_texel-end-in-loop-i c =
    omega (arith, ends (goal.at.slice_bounds-put_texel-end-in-loop-i c).At-loop-i (omega arith))

pub put_texel-requires : goal.put_texel-requires
put_texel-requires c =
    let a = c.args.self.plan in
    let bytes = room 4 c.loop-i.i a.width c.loop-i.out (omega arith) (omega arith) in
    let told = room a.step c.loop-i.i a.width c.loop-i.seen (omega arith) (omega arith) in
    record {
      observe_value = c.requires.observe_value.0;
      i_bound = omega (arith, narrow_plan c.args.self.plan);
      in_bounds = bytes;
      step_in_bounds = rw (same_step (goal.at.put_texel-requires c).At-loop-i) told;
    }

pub loop-i-preserved : goal.loop-i-preserved
loop-i-preserved c =
    let a = c.args in
    let t = c.put_texel in
    let o = again (row_given a.self.plan a.self.bank.now (placing a.row) a.self.plan.width
    (accepted-known _ _ _ a.self.plan.picture.pair_accepted)) c.loop-i.i _ _ _ (omega arith)
    c.requires.width_in_bounds c.loop-i.invariant.1 t.ensures.out_after in
    let told = rw (same_step (goal.at.loop-i-preserved c).At-loop-i) at t.ensures.seen_after in
    let q = again (row_told a.self.plan a.self.bank.now (placing a.row) a.self.plan.width a.self.plan.step_is)
    c.loop-i.i _ _ _ (omega arith)
    c.requires.width_in_bounds_2 c.loop-i.invariant.2 told in
    rw (same_step (goal.at.loop-i-preserved c).At-loop-i) (omega arith, o.0, q.0, o.1, q.1)

pub shape_of-out : goal.shape_of-out
shape_of-out c = c.loop-i.invariant.3

pub shape_of-seen : goal.shape_of-seen
shape_of-seen c = c.loop-i.invariant.4

pub returns : goal.returns
unfolding row_of
returns c =
    let e : c.loop-i.i ≡ c.args.self.plan.width = omega arith in
    record {
      out_after = rw (← e) c.loop-i.invariant.1;
      seen_after = rw (← e) c.loop-i.invariant.2;
    }
