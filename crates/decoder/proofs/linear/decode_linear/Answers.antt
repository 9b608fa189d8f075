-- `decoder::linear::decode_linear` answers and leaves what the call says: refused, or the rows written and their reads counted.
use Rattle.decoder.proofs.LinearCalls.{Taken, taken, linear-refused, linear_done}
use Rattle.decoder.specs.Formats.{rule_of}
use Rattle.rdp.specs.View.{tile_of}
use native.Mathlib.Omega.{arith}
use native.Mathlib.Nat.{mul-le-mul}
use Prim.Native.Nat.{◌*◌, ◌≤◌}
use mathlib.Core.Path.{sym}
use Rattle.decoder.proofs.linear.decode_linear.Goals.{After-reads, In_ok-check_linear}
use Rattle.decoder.proofs.linear.decode_linear.Goals as goal

may : (c : In_ok-check_linear) → let a = c.args in Taken (tile_of a.tile) a.stride a.picture.now
may c =
    let a = c.args in
    taken a.source.now (tile_of a.tile) a.stride a.picture.now (sym c.in_ok-check_linear.ensures)

-- texels and reads are few
texels : (c : In_ok-check_linear) → let t = tile_of c.args.tile in t.width * t.height ≤ 268435456
texels c = let w = may c in mul-le-mul w.sides.width w.sides.height

few : (c : After-reads) → let t = tile_of c.args.tile in c.reads.result * (t.width * t.height) ≤ 1073741824
few c = mul-le-mul c.reads.ensures.upper_bound (texels (goal.at.After-reads c).In_ok-check_linear)

pub returns-in_err-check_linear : goal.returns-in_err-check_linear
returns-in_err-check_linear c =
    let a = c.args in
    linear-refused a.source.now (tile_of a.tile) a.stride a.picture.now _ _ c.from_residual.ensures.1 c.in_err-check_linear.ensures

pub of_tile-format-requires : goal.of_tile-format-requires
of_tile-format-requires c =
    let w = may (goal.at.of_tile-format-requires c).In_ok-check_linear in
    record { in_range = (w.sides.fmt, w.sides.siz); knows = w.knows }

pub overflow_mul-reads : goal.overflow_mul-reads
overflow_mul-reads c = omega (arith, few (goal.at.overflow_mul-reads c).After-reads)

pub put_source_rows-requires : goal.put_source_rows-requires
put_source_rows-requires c =
    let w = may (goal.at.put_source_rows-requires c).In_ok-check_linear in
    record {
      palette_bound = w.sides.palette;
      stride_bound = w.stride_in;
      sides = (w.sides.width, w.sides.height);
      rows_in_bounds = w.room;
    }

pub overflow_cast-result : goal.overflow_cast-result
overflow_cast-result c = omega (arith, few (goal.at.overflow_cast-result c).After-reads)

pub returns : goal.returns
returns c =
    let a = c.args in
    linear_done a.source.now (tile_of a.tile) a.stride a.picture.now (rule_of c.of_tile-format.result) _ _
    c.in_ok-check_linear.ensures c.of_tile-format.ensures (rw c.reads.ensures.value) c.put_source_rows.ensures
