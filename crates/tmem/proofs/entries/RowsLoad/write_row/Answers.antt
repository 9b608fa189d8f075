-- `tmem::entries::RowsLoad::write_row` carries out the entries of a row, one after the other. Assumes nothing.
use mathlib.Core.Path.{refl}
use Prim.Native.Nat.{◌*◌, ◌≤◌}
use native.Mathlib.Omega.{arith}
use Rattle.rules.specs.Load.{entry_row}
use Rattle.tmem.specs.Part.{load_of}
use Rattle.tmem.proofs.Carry.{begin_count, next_count, finish_count, count_within, on_loan}
use Rattle.tmem.proofs.Indices.{product_within}
use Rattle.tmem.proofs.Rows.{entry_length, entry_at}
use Rattle.tmem.proofs.Within.{Rows, rows_in}
use Rattle.tmem.proofs.entries.RowsLoad.write_row.Goals.{Start}
use Rattle.tmem.proofs.entries.RowsLoad.write_row.Goals as goal

within : (c : Start) → Rows c.args.self.count c.args.self.rows c.args.self.stride
within c = rows_in _ _ _ c.args.self.in_range

source-within : (c : Start) → c.args.row * c.args.self.stride ≤ 1023 * 65535
source-within c =
    let w = within c in
    product_within 1023 65535 c.args.row c.args.self.stride (omega (arith, w.few_rows)) w.stride_in

pub loop-i-init : goal.loop-i-init
loop-i-init c = begin_count c.none-tally.ensures

pub entry_addr-at-requires : goal.entry_addr-at-requires
entry_addr-at-requires c =
    let w = within (goal.at.entry_addr-at-requires c).Start in
    record { row_bound = omega (arith, w.few_rows); i_bound = omega (arith, w.few) }

pub overflow_mul-source : goal.overflow_mul-source
overflow_mul-source c = omega (arith, source-within (goal.at.overflow_mul-source c).Start)

pub overflow_mul-source-in-loop-i : goal.overflow_mul-source-in-loop-i
overflow_mul-source-in-loop-i c = omega (arith, (within (goal.at.overflow_mul-source-in-loop-i c).Start).few)

pub overflow_add-source : goal.overflow_add-source
overflow_add-source c =
    let s = (goal.at.overflow_add-source c).Start in
    omega (arith, source-within s, (within s).few)

pub plus-tally-requires : goal.plus-tally-requires
plus-tally-requires c =
    let a = c.args in
    let is = entry_at (load_of a.tile) a.self.stride a.row c.loop-i.i _ c.entry_addr-at.ensures.result_value in
    let few = count_within c.loop-i.invariant c.loop-i-test.true (rw is at c.write_tlut_entry-more.ensures)
    8 1024 8 (entry_length _ _ _) (within (goal.at.plus-tally-requires c).Start).few (omega arith) in
    record { count_bound = omega (arith, few.0); made_up_bound = omega (arith, few.1) }

pub overflow_step-i : goal.overflow_step-i
overflow_step-i c = omega (arith, (within (goal.at.overflow_step-i c).Start).few)

pub loop-i-preserved : goal.loop-i-preserved
loop-i-preserved c =
    let a = c.args in
    let is = entry_at (load_of a.tile) a.self.stride a.row c.loop-i.i _ c.entry_addr-at.ensures.result_value in
    next_count c.loop-i.invariant c.loop-i-test.true (rw is at c.write_tlut_entry-more.ensures) c.plus-tally.ensures

pub returns : goal.returns
unfolding entry_row
returns c = on_loan c.args.memory.now refl refl refl refl (finish_count c.loop-i.invariant c.loop-i-test.false)
