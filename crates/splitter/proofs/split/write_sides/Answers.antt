-- `splitter::split::write_sides` writes side after side. Assumes nothing.
use mathlib.Core.Path.{◌≡◌, refl, ap, sym, ◌∙◌}
use Prim.Native.Nat.{◌<◌}
use native.Mathlib.Omega.{arith}
use native.Mathlib.Numerals.{add-one}
use lib.ListN.{length, length-set}
use lib.Seq.{take-suc-set}
use borrow.Author.Tests.{eqb-true, eqb-false}
use Rattle.rules.specs.Split.{body_at, group_of, turn}
use Rattle.rules.proofs.Splits.{no_sides, no_totals, one_side, none_held_out, sides-more, held_out_more, held_out_within, turn-most}
use Rattle.splitter.proofs.split.write_sides.Goals.{At-loop-i}
use Rattle.splitter.proofs.split.write_sides.Goals as goal

-- the sides keep their number
size : (c : At-loop-i) → length c.loop-i.out ≡ length c.args.out.now
size c = c.loop-i.invariant.2 ∙ length-set c.args.out.now 0 0

pub returns-then-is_empty : goal.returns-then-is_empty
returns-then-is_empty c =
    let f = body_at c.args.entries.now in
    let none = eqb-true (length c.args.out.now) 0 (sym c.if-is_empty.ensures) in
    record {
      sides_written = no_sides f c.args.out.now none;
      counted = sym (no_totals f c.args.out.now none);
    }

pub loop-i-init : goal.loop-i-init
loop-i-init c =
    let f = body_at c.args.entries.now in
    let out = c.args.out.now in
    let some : 0 < length out = omega (arith, eqb-false (length out) 0 (sym c.if-is_empty.ensures)) in (
      omega arith,
      rw length-set some,
      refl,
      take-suc-set out 0 0 some ∙ sym (one_side f),
      sym (none_held_out f),
      c.new-groups.ensures f,
    )

pub overflow_add-held_out : goal.overflow_add-held_out
overflow_add-held_out c =
    let f = body_at c.args.entries.now in
    let turns = turn-most (group_of f c.loop-i.i) in
    let side = c.side_of-side.ensures ∙ ap turn c.group_of-group.ensures.group in
    let most = size (goal.at.overflow_add-held_out c).At-loop-i in
    record { fits = omega (arith, c.requires.room, most, c.loop-i.invariant.4, held_out_within f c.loop-i.i) }

pub loop-i-preserved : goal.loop-i-preserved
loop-i-preserved c =
    let l = c.loop-i in
    let g = c.group_of-group.ensures in
    let side = c.side_of-side in
    let f = body_at c.args.entries.now in
    let within : l.i < length l.out = omega (arith, c.loop-i-test.true, l.invariant.2) in
    let front = take-suc-set l.out l.i side.result within in (
      omega arith,
      rw length-set (omega arith),
      length-set l.out l.i side.result ∙ l.invariant.2,
      rw (add-one, front, l.invariant.3, side.ensures, g.group) (sym (rw add-one at (sides-more f l.i))),
      rw (l.invariant.4, side.ensures, g.group) (sym (held_out_more f l.i)),
      g.known_after,
    )
