-- `tmem::entries::RowsLoad::write` carries out the rows of entries, one after the other. Assumes nothing.
use Prim.Native.Nat.{◌*◌}
use native.Mathlib.Omega.{arith}
use Rattle.rules.specs.Load.{row_stores}
use Rattle.tmem.proofs.Carry.{begin_count, next_count, finish_count, count_within}
use Rattle.tmem.proofs.Rows.{entry_row-length}
use Rattle.tmem.proofs.Within.{rows_in}
use Rattle.tmem.proofs.entries.RowsLoad.write.Goals as goal

pub loop-row-init : goal.loop-row-init
loop-row-init c = begin_count c.none-tally.ensures

pub plus-tally-requires : goal.plus-tally-requires
plus-tally-requires c =
    let s = c.args.self in
    let w = rows_in s.count s.rows s.stride s.in_range in
    let few = count_within c.loop-row.invariant c.loop-row-test.true c.write_row-more.ensures
    (s.count * 8) 1024 8192 (entry_row-length _ _ _) w.few_rows (omega (arith, w.few)) in
    record { count_bound = omega (arith, few.0); made_up_bound = omega (arith, few.1) }

pub loop-row-preserved : goal.loop-row-preserved
loop-row-preserved c = next_count c.loop-row.invariant c.loop-row-test.true c.write_row-more.ensures c.plus-tally.ensures

pub returns : goal.returns
unfolding row_stores
returns c = finish_count c.loop-row.invariant c.loop-row-test.false
