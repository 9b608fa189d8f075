-- `decoder::place::row_at` is the rule's row, whose start is small. Assumes nothing.
use Rattle.rules.specs.Picture.{row_start}
use Rattle.rules.specs.Tile.{Tile}
use Rattle.rdp.specs.View.{tile_of}
use native.Mathlib.Omega.{arith}
use native.Mathlib.Nat.{mul-le-mul}
use Prim.Native.Nat.{ℕ, ◌*◌, ◌%◌, ◌≤◌}
use Rattle.decoder.proofs.place.row_at.Goals as goal

starts : (t : Tile) (y : ℕ) → t.line ≤ 511 → row_start t y ≤ 4190000
starts t y h =
    let row : y % 256 ≤ 255 = omega arith in
    let stride : 8 * t.line ≤ 4088 = omega arith in
    omega (arith, mul-le-mul row stride)

pub returns-then-lookup : goal.returns-then-lookup
returns-then-lookup c = rw c.if-lookup.true

pub invariant_of-result-2 : goal.invariant_of-result-2
invariant_of-result-2 c =
    record {
      start_bound = rw c.row_start.ensures (starts (tile_of c.args.picture.tile) c.args.y c.args.picture.in_range.line);
      scale_bound = c.scale_of.ensures.upper_bound;
      first_bound = omega arith;
      step_bound = omega arith;
    }

pub returns : goal.returns
returns c = rw (c.if-lookup.false, c.scale_of.ensures.value, c.row_start.ensures)
