-- `texdec::format::FormatInfo::validate` accepts the listed pairs: each arm is the rule's test at the sizes 0 to 3, and no
-- pair has a size above. Assumes nothing.
use Rattle.std.proofs.Common.{◌≢◌}
use mathlib.Core.Path.{refl}
use mathlib.Core.Bool.{◌&&◌, and-false}
use native.Mathlib.Omega.{arith}
use lib.Dec.{leb}
use borrow.Author.Tests.{ne_eqb, lt-leb}
use Rattle.rules.specs.Base.{any}
use Rattle.rules.specs.Texdec.{accepted_direct}
use Rattle.texdec.proofs.Sizes.{by_size}
use Rattle.texdec.proofs.format.FormatInfo.validate.Goals as goal

pub returns-in-0 : goal.returns-in-0
unfolding accepted_direct any
returns-in-0 c =
    rw c.in-0.is
    (by_size 0 (λ s. leb 2 s && leb s 3) refl refl refl refl (λ n h. rw (lt-leb n 3 h) (and-false (leb 2 n))) c.args.self.siz)

pub returns-in-2 : goal.returns-in-2
unfolding accepted_direct any
returns-in-2 c = rw c.in-2.is (by_size 2 (λ s. leb s 3) refl refl refl refl (λ n h. lt-leb n 3 h) c.args.self.siz)

pub returns-in-3 : goal.returns-in-3
unfolding accepted_direct any
returns-in-3 c =
    rw c.in-3.is (by_size 3 (λ s. leb s 2) refl refl refl refl (λ n h. lt-leb n 2 (omega arith)) c.args.self.siz)

pub returns-in-4 : goal.returns-in-4
unfolding accepted_direct any
returns-in-4 c =
    rw c.in-4.is (by_size 4 (λ s. leb s 1) refl refl refl refl (λ n h. lt-leb n 1 (omega arith)) c.args.self.siz)

pub returns-in_default : goal.returns-in_default
unfolding accepted_direct any
returns-in_default c =
    let f = c.args.self.fmt in
    let h0 : f ≢ 0 = omega arith in
    let h2 : f ≢ 2 = omega arith in
    let h3 : f ≢ 3 = omega arith in
    let h4 : f ≢ 4 = omega arith in
    simp (ne_eqb _ 0 h0, ne_eqb _ 2 h2, ne_eqb _ 3 h3, ne_eqb _ 4 h4)
