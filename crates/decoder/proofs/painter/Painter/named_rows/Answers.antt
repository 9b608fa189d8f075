-- `decoder::painter::Painter::named_rows` writes one row after the other, each through the part that starts where the ones before it end.
use Rattle.rules.proofs.Formats.{accepted-known}
use Rattle.decoder.proofs.Plans.{narrow_plan, short_plan}
use Rattle.decoder.proofs.Placed.{rows_given, rows_told}
use Rattle.rules.proofs.Parts.{begins, again, room, part_ends}
use Rattle.decoder.proofs.Lengths.{step_few}
use Rattle.decoder.specs.Rows.{row_at, rows_of}
use Rattle.rdp.specs.View.{tile_of}
use lib.ListN.{length}
use native.Mathlib.Omega.{arith}
use native.Mathlib.Nat.{mul-le-mul}
use Prim.Native.Nat.{◌+◌, ◌*◌, ◌<◌, ◌≤◌}
use mathlib.Core.Path.{◌≡◌, refl}
use Rattle.decoder.proofs.painter.Painter.named_rows.Given.{Over}
use Rattle.decoder.proofs.painter.Painter.named_rows.Goals.{At-loop-y}
use Rattle.decoder.proofs.painter.Painter.named_rows.Goals as goal

-- where a row of the picture and its trail end
ends : (g : Over) (c : At-loop-y g) → let p = c.args.self.plan in c.loop-y.y < p.rows
    → 4 * p.width * c.loop-y.y + 4 * p.width ≤ length c.loop-y.out
ends g c h = let p = c.args.self.plan in omega (arith, part_ends (4 * p.width) c.loop-y.y p.rows h)

told-ends : (g : Over) (c : At-loop-y g) → let p = c.args.self.plan in c.loop-y.y < p.rows
    → p.step * p.width * c.loop-y.y + p.step * p.width ≤ length c.loop-y.seen
told-ends g c h = let p = c.args.self.plan in omega (arith, part_ends (p.step * p.width) c.loop-y.y p.rows h)

pub overflow_mul-bytes : goal.overflow_mul-bytes
overflow_mul-bytes g c = omega (arith, (narrow_plan c.args.self.plan))

pub overflow_mul-told : goal.overflow_mul-told
overflow_mul-told g c =
    let p = c.args.self.plan in
    let step : p.step ≤ 8 = rw p.step_is (step_few p.observe (tile_of p.picture.tile) p.picture.tlut) in
    omega (arith, mul-le-mul step (narrow_plan c.args.self.plan))

pub loop-y-init : goal.loop-y-init
loop-y-init g c =
    let a = c.args in
    let row = row_at a.self.plan.lookup (tile_of a.self.plan.picture.tile) a.self.plan.picture.tlut in (
      omega arith,
      begins (rows_given a.self.plan a.self.bank.now row 0 (accepted-known _ _ _ a.self.plan.picture.pair_accepted)) _,
      begins (rows_told a.self.plan a.self.bank.now row 0 a.self.plan.step_is) _,
      refl,
      refl,
    )

pub row_at-row-requires : goal.row_at-row-requires
row_at-row-requires g c = omega (arith, short_plan c.args.self.plan)

pub overflow_mul-o : goal.overflow_mul-o
overflow_mul-o g c = omega (arith, ends g (goal.at.overflow_mul-o g c).At-loop-y (omega arith), c.well_formed)

pub overflow_mul-s : goal.overflow_mul-s
overflow_mul-s g c = omega (arith, told-ends g (goal.at.overflow_mul-s g c).At-loop-y (omega arith), c.well_formed)

pub slice_bounds-row-count : goal.slice_bounds-row-count
slice_bounds-row-count g c = omega (arith, ends g (goal.at.slice_bounds-row-count g c).At-loop-y (omega arith))

pub slice_bounds-row-start : goal.slice_bounds-row-start
slice_bounds-row-start g c = omega (arith, ends g (goal.at.slice_bounds-row-start g c).At-loop-y (omega arith))

pub slice_bounds-row-end : goal.slice_bounds-row-end
slice_bounds-row-end g c = omega (arith, ends g (goal.at.slice_bounds-row-end g c).At-loop-y (omega arith))

pub slice_bounds-row-count-in-loop-y : goal.slice_bounds-row-count-in-loop-y
slice_bounds-row-count-in-loop-y g c =
    omega (arith, told-ends g (goal.at.slice_bounds-row-count-in-loop-y g c).At-loop-y (omega arith))

pub slice_bounds-row-start-in-loop-y : goal.slice_bounds-row-start-in-loop-y
slice_bounds-row-start-in-loop-y g c =
    omega (arith, told-ends g (goal.at.slice_bounds-row-start-in-loop-y g c).At-loop-y (omega arith))

pub slice_bounds-row-end-in-loop-y : goal.slice_bounds-row-end-in-loop-y
slice_bounds-row-end-in-loop-y g c =
    omega (arith, told-ends g (goal.at.slice_bounds-row-end-in-loop-y g c).At-loop-y (omega arith))

pub row-requires : goal.row-requires
row-requires g c =
    let a = c.args.self.plan in
    let bytes = room (4 * a.width) c.loop-y.y a.rows c.loop-y.out (omega arith) (omega arith) in
    let told = room (a.step * a.width) c.loop-y.y a.rows c.loop-y.seen (omega arith) (omega arith) in
    record {
      observe_value = c.requires.observe_value;
      width_in_bounds = bytes;
      width_in_bounds_2 = told;
    }

pub loop-y-preserved : goal.loop-y-preserved
loop-y-preserved g c =
    let a = c.args in
    let row = row_at a.self.plan.lookup (tile_of a.self.plan.picture.tile) a.self.plan.picture.tlut in
    let gives = rows_given a.self.plan a.self.bank.now row a.self.plan.rows (accepted-known _ _ _ a.self.plan.picture.pair_accepted) in
    let tells = rows_told a.self.plan a.self.bank.now row a.self.plan.rows a.self.plan.step_is in
    let out = rw c.row_at-row.ensures at c.row.ensures.out_after in
    let seen = rw c.row_at-row.ensures at c.row.ensures.seen_after in
    let o = again gives c.loop-y.y _ _ _ (omega arith) c.requires.rows_in_bounds c.loop-y.invariant.1 out in
    let q = again tells c.loop-y.y _ _ _ (omega arith) c.requires.rows_in_bounds_2 c.loop-y.invariant.2 seen in
    (omega arith, o.0, q.0, o.1, q.1)

pub shape_of-out : goal.shape_of-out
shape_of-out g c = c.loop-y.invariant.3

pub shape_of-seen : goal.shape_of-seen
shape_of-seen g c = c.loop-y.invariant.4

pub returns : goal.returns
unfolding rows_of
returns g c =
    let e : c.loop-y.y ≡ c.args.self.plan.rows = omega arith in
    record {
      out_after = rw (← e) c.loop-y.invariant.1;
      seen_after = rw (← e) c.loop-y.invariant.2;
    }
