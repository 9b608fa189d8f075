-- `splitter::split::split` answers and leaves the call's outcome. Assumes nothing.
use mathlib.Core.Path.{◌≡◌, ap, sym, ◌∙◌}
use native.Mathlib.Omega.{arith}
use Rattle.rules.specs.Split.{body_at, sides, total, split_call}
use Rattle.rules.proofs.Splits.{Taken, taken, split_done, held_out_within}
use Rattle.rdp.proofs.Refusals.{refused_call}
use Rattle.splitter.proofs.split.split.Goals.{After-write_sides-held_out, In_ok-check_split}
use Rattle.splitter.proofs.split.split.Goals as goal

-- what is known once there was no refusal
all : (c : In_ok-check_split) → Taken c.args.count c.args.entries.now c.args.out.now
all c = taken _ _ _ (sym c.in_ok-check_split.ensures)

-- how many were counted
held : (c : After-write_sides-held_out) → c.write_sides-held_out.result ≡ total 1 (sides (body_at c.args.entries.now) c.args.count)
held c =
    let t = all (goal.at.After-write_sides-held_out c).In_ok-check_split in
    c.write_sides-held_out.ensures.counted ∙ ap (λ n. total 1 (sides (body_at c.args.entries.now) n)) t.sides_size

pub returns-in_err-check_split : goal.returns-in_err-check_split
unfolding split_call
returns-in_err-check_split c = refused_call _ _ _ _ _ _ _ c.from_residual.ensures.1 c.in_err-check_split.ensures

pub write_sides-held_out-requires : goal.write_sides-held_out-requires
write_sides-held_out-requires c =
    let t = all (goal.at.write_sides-held_out-requires c).In_ok-check_split in
    record {
      room = omega (arith, t.most, t.sides_size);
      entries_size = omega (arith, t.entries_size, t.sides_size);
    }

pub overflow_sub-result : goal.overflow_sub-result
overflow_sub-result c =
    let counted = held (goal.at.overflow_sub-result c).After-write_sides-held_out in
    omega (arith, counted, held_out_within (body_at c.args.entries.now) c.args.count)

pub returns : goal.returns
returns c =
    let t = all (goal.at.returns c).In_ok-check_split in
    let left = c.write_sides-held_out.ensures.sides_written ∙ ap (sides (body_at c.args.entries.now)) t.sides_size in
    split_done c.args.count _ _ _ _ (sym c.in_ok-check_split.ensures) left (held (goal.at.returns c).After-write_sides-held_out)
