-- `decoder::source_rows::put_source_rows` writes one row after the other, each through the part that starts where the ones before it
-- end.
use Rattle.decoder.specs.Formats.{rule_of}
use Rattle.decoder.proofs.Formats.{rule_known}
use Rattle.decoder.proofs.Sources.{rows_parts}
use Rattle.rules.proofs.Parts.{begins, again, room, part_ends}
use lib.ListN.{length}
use native.Mathlib.Omega.{arith}
use native.Mathlib.Nat.{mul-le-mul}
use Prim.Native.Nat.{◌+◌, ◌*◌, ◌<◌, ◌≤◌}
use mathlib.Core.Bool.{true≢false}
use mathlib.Core.Path.{◌≡◌, refl, sym}
use Rattle.decoder.proofs.source_rows.put_source_rows.Goals.{At-loop-y}
use Rattle.decoder.proofs.source_rows.put_source_rows.Goals as goal

-- where a row of the picture ends, and where one of the source starts
ends : (c : At-loop-y) → let a = c.args in c.loop-y.y < a.tile.height
    → 4 * a.tile.width * c.loop-y.y + 4 * a.tile.width ≤ length c.loop-y.out
ends c h = let a = c.args in omega (arith, part_ends (4 * a.tile.width) c.loop-y.y a.tile.height h, c.requires.rows_in_bounds)

near : (c : At-loop-y) → c.loop-y.y < c.args.tile.height → c.loop-y.y * c.args.stride ≤ 1073725440
near c h =
    let few : c.loop-y.y ≤ 16384 = omega (arith, c.requires.sides.1) in
    let far : c.args.stride ≤ 65535 = c.requires.stride_bound in
    mul-le-mul few far

pub overflow_mul-bytes : goal.overflow_mul-bytes
overflow_mul-bytes c = omega (arith, c.requires.sides.0)

pub loop-y-init : goal.loop-y-init
loop-y-init c =
    let a = c.args in
    (omega arith, begins (rows_parts (rule_of a.format) a.tile.palette a.stride a.tile.width a.source.now (rule_known a.format) 0) _, refl)

pub overflow_mul-row : goal.overflow_mul-row
overflow_mul-row c = omega (arith, near (goal.at.overflow_mul-row c).At-loop-y (omega arith))

pub overflow_mul-o : goal.overflow_mul-o
overflow_mul-o c = omega (arith, ends (goal.at.overflow_mul-o c).At-loop-y (omega arith), c.well_formed)

pub slice_bounds-put-count : goal.slice_bounds-put-count
slice_bounds-put-count c = omega (arith, ends (goal.at.slice_bounds-put-count c).At-loop-y (omega arith))

pub slice_bounds-put-start : goal.slice_bounds-put-start
slice_bounds-put-start c = omega (arith, ends (goal.at.slice_bounds-put-start c).At-loop-y (omega arith))

pub slice_bounds-put-end : goal.slice_bounds-put-end
slice_bounds-put-end c = omega (arith, ends (goal.at.slice_bounds-put-end c).At-loop-y (omega arith))

pub put-requires : goal.put-requires
put-requires c = record {
  width_bound = c.requires.sides.0;
  in_bounds = room (4 * c.args.tile.width) c.loop-y.y c.args.tile.height c.loop-y.out (omega arith) (omega arith);
}

pub invariant_of-row : goal.invariant_of-row
invariant_of-row c =
    record {
      palette_bound = c.requires.palette_bound;
      near = omega (arith, near (goal.at.invariant_of-row c).At-loop-y (omega arith), c.requires.sides.0);
      there = λ e. absurd (true≢false (sym e));
    }

pub loop-y-preserved : goal.loop-y-preserved
loop-y-preserved c =
    let a = c.args in
    let rows = rows_parts (rule_of a.format) a.tile.palette a.stride a.tile.width a.source.now (rule_known a.format) a.tile.height in
    let row = c.put.ensures in
    let o = again rows c.loop-y.y _ _ _ (omega arith) c.requires.rows_in_bounds c.loop-y.invariant.1 row in
    (omega arith, o.0, o.1)

pub shape_of-out : goal.shape_of-out
shape_of-out c = c.loop-y.invariant.2

pub returns : goal.returns
returns c = let e : c.loop-y.y ≡ c.args.tile.height = omega arith in rw (← e) c.loop-y.invariant.1
