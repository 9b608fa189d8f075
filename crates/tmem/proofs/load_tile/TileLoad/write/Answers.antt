-- `tmem::load_tile::TileLoad::write` carries out the rows of a tile, one after the other. Assumes nothing.
use Prim.Native.Nat.{◌*◌}
use native.Mathlib.Omega.{arith}
use Rattle.rules.specs.Load.{tile_stores}
use Rattle.tmem.proofs.Carry.{begin_count, next_count, finish_count, count_within}
use Rattle.tmem.proofs.Runs.{row_length}
use Rattle.tmem.proofs.Within.{tile_rows_in}
use Rattle.tmem.proofs.load_tile.TileLoad.write.Goals as goal

pub loop-row-init : goal.loop-row-init
loop-row-init c = begin_count c.none-tally.ensures

pub plus-tally-requires : goal.plus-tally-requires
plus-tally-requires c =
    let s = c.args.self in
    let w = tile_rows_in s.rows s.words s.stride s.in_range in
    let few = count_within c.loop-row.invariant c.loop-row-test.true c.write_row-more.ensures
    (s.words * 8) 1024 4096 (row_length _ _ _ _) w.few_rows (omega (arith, w.few)) in
    record { count_bound = omega (arith, few.0); made_up_bound = omega (arith, few.1) }

pub loop-row-preserved : goal.loop-row-preserved
loop-row-preserved c = next_count c.loop-row.invariant c.loop-row-test.true c.write_row-more.ensures c.plus-tally.ensures

pub returns : goal.returns
unfolding tile_stores
returns c = finish_count c.loop-row.invariant c.loop-row-test.false
