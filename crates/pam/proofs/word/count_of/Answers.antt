-- `pam::word::count_of` reads digits. Assumes nothing.
use mathlib.Core.Path.{sym, ◌∙◌}
use native.Mathlib.Omega.{arith}
use lib.ListN.{get_or}
use Rattle.pam.proofs.Counts.{counted_none, counted_more, digit_ascii, no_digit, some_digits, zero_digits}
use Rattle.pam.proofs.word.count_of.Goals as goal

pub loop-b-init : goal.loop-b-init
loop-b-init c = counted_none c.args.s.now

pub returns-then-not-is_ascii_digit : goal.returns-then-not-is_ascii_digit
returns-then-not-is_ascii_digit c =
    no_digit c.args.s.now c.loop-b.b-index c.loop-b-test.true (digit_ascii (get_or c.args.s.now c.loop-b.b-index 0) ∙ sym
    c.if-not-is_ascii_digit.ensures.value)

pub loop-b-preserved : goal.loop-b-preserved
loop-b-preserved c =
    let d = digit_ascii (get_or c.args.s.now c.loop-b.b-index 0) ∙ sym c.if-not-is_ascii_digit.ensures.value in
    counted_more c.args.s.now c.loop-b.b-index c.loop-b.n c.loop-b-test.true c.loop-b.invariant _ d (omega arith)

pub returns-then-n-eq0 : goal.returns-then-n-eq0
returns-then-n-eq0 c = zero_digits c.args.s.now c.loop-b.b-index c.loop-b.n c.loop-b-test.false c.loop-b.invariant c.if-n-eq0.true

pub returns-else-n-eq0 : goal.returns-else-n-eq0
returns-else-n-eq0 c = some_digits c.args.s.now c.loop-b.b-index c.loop-b.n c.loop-b-test.false c.loop-b.invariant c.if-n-eq0.false
