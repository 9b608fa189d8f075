-- `decoder::table::entry_table` fills one entry after the other.
use Rattle.decoder.proofs.Tables.{filled_more, entries_end, entries-all, entry_sums, sum_gives}
use Rattle.decoder.specs.Tables.{entry_format, half_sum, entry_gives}
use Rattle.rules.specs.Texdec.{channels}
use Rattle.texdec.specs.Ready.{halves_of}
use Rattle.texdec.proofs.Halves.{Sums}
use lib.ListN.{length, length-set, get_or}
use native.Mathlib.Omega.{arith}
use Prim.Native.Nat.{◌+◌, ◌<◌, ◌≤◌}
use mathlib.Core.Path.{◌≡◌, refl, ap}
use Rattle.rdp.specs.View.{tile_of}
use Rattle.decoder.proofs.table.entry_table.Goals.{After-entry_addr-at, At-loop-k}
use Rattle.decoder.proofs.table.entry_table.Goals as goal

-- the entries end inside the table
ends : (c : At-loop-k)
    → c.first_entry-first.result + c.entry_count-count.result ≤ 256
ends c =
    rw (c.first_entry-first.ensures, c.entry_count-count.ensures)
    (entries_end (tile_of c.args.picture.tile) c.args.picture.in_range.palette)

-- the halves of the two bytes make the entry's texel
sums : (c : After-entry_addr-at) → let mode = c.args.picture.tlut in
    let hi = get_or c.args.bank.now c.entry_addr-at.result.0 0 in
    let lo = get_or c.args.bank.now (c.entry_addr-at.result.0 + 1) 0 in
    Sums (entry_format mode) hi lo (half_sum (halves_of (entry_format mode)) hi lo)
sums c = entry_sums c.args.picture.tlut _ _ (omega arith) (omega arith)

pub loop-k-init : goal.loop-k-init
loop-k-init c = (omega arith, refl, λ j h. absurd (omega arith))

pub overflow_add-i : goal.overflow_add-i
overflow_add-i c = omega (arith, ends (goal.at.overflow_add-i c).At-loop-k)

pub overflow_cast-i : goal.overflow_cast-i
overflow_cast-i c = omega (arith, ends (goal.at.overflow_cast-i c).At-loop-k)

pub overflow_add-at : goal.overflow_add-at
overflow_add-at c = omega (arith, c.entry_addr-at.ensures, ends (goal.at.overflow_add-at c).At-loop-k)

pub half_sum-requires : goal.half_sum-requires
half_sum-requires c = rw c.halves_of-halves.ensures (sums (goal.at.half_sum-requires c).After-entry_addr-at).fits

pub offset_bounds-table-i : goal.offset_bounds-table-i
offset_bounds-table-i c = omega (arith, ends (goal.at.offset_bounds-table-i c).At-loop-k)

pub bounds-table-i : goal.bounds-table-i
bounds-table-i c = omega (arith, ends (goal.at.bounds-table-i c).At-loop-k)

pub loop-k-preserved : goal.loop-k-preserved
loop-k-preserved c =
    let a = c.args in
    let room : c.first_entry-first.result + c.loop-k.k < length c.loop-k.table =
    omega (arith, ends (goal.at.loop-k-preserved c).At-loop-k) in
    let hi = ap (λ n. get_or a.bank.now n 0) c.entry_addr-at.ensures in
    let lo = ap (λ n. get_or a.bank.now (n + 1) 0) c.entry_addr-at.ensures in
    let i = c.first_entry-first.result + c.loop-k.k in
    let sum : channels c.half_sum.result ≡ entry_gives a.picture.tlut a.picture.lane a.bank.now i =
    rw (c.half_sum.ensures, c.halves_of-halves.ensures)
    (sum_gives a.picture.tlut a.picture.lane a.bank.now i _ _ _ hi lo (sums (goal.at.loop-k-preserved c).After-entry_addr-at)) in (
      omega arith,
      simp length-set c.loop-k.invariant.1,
      filled_more a.picture.tlut a.picture.lane a.bank.now _ c.loop-k.table c.loop-k.k _ room c.loop-k.invariant.2 sum,
    )

pub returns : goal.returns
returns c =
    let e : c.loop-k.k ≡ c.entry_count-count.result = omega arith in
    entries-all _ _ _ _ _ c.loop-k.invariant.1
    (rw (c.first_entry-first.ensures, e, c.entry_count-count.ensures) at c.loop-k.invariant.2)
