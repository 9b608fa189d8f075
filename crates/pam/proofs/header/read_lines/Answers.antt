-- `pam::header::read_lines` reads a line a turn, up to the ENDHDR line. Assumes nothing.
use mathlib.Core.Path.{ap, sym, ◌∙◌}
use Prim.Native.Nat.{◌+◌}
use native.Mathlib.Omega.{arith}
use lib.ListN.{drop}
use Rattle.rules.specs.Pam.{lines}
use Rattle.pam.specs.Gather.{noted, read_from}
use Rattle.pam.proofs.Headers.{read_none, read_end, read_next}
use Rattle.pam.proofs.Keys.{is_endhdr, end_is, was_end}
use Rattle.pam.proofs.header.read_lines.Goals as goal

pub returns-in_err-end-clause-value : goal.returns-in_err-end-clause-value
returns-in_err-end-clause-value c =
    c.from_residual.ensures ∙ sym (c.loop-end.invariant.1 ∙ read_none c.loop-end.at c.loop-end.stated _ c.in_err-end.ensures)

pub returns-then-eq-clause-value : goal.returns-then-eq-clause-value
returns-then-eq-clause-value c =
    let l = c.loop-end in
    let f = c.in_ok-end.ensures in
    let last = sym (end_is _) ∙ sym (ap (λ r. is_endhdr r.keyword) c.read_line-line.ensures) ∙ was_end _ c.if-eq.ensures in
    c.whole.ensures ∙ sym (l.invariant.1 ∙ read_end _ l.at c.in_ok-end.end l.stated f.0 f.1 f.2 last)

pub loop-end-preserved : goal.loop-end-preserved
loop-end-preserved c =
    let l = c.loop-end in
    let file = c.args.file.now in
    let end = c.in_ok-end.end in
    let f = c.in_ok-end.ensures in
    let more = sym (end_is _) ∙ sym (ap (λ r. is_endhdr r.keyword) c.read_line-line.ensures) ∙ was_end _ c.if-eq.ensures in
    let next = read_next _ l.at end l.stated f.0 f.1 f.2 more in
    let state = sym (c.note_line-stated.ensures ∙ ap (noted l.stated) c.read_line-line.ensures) in
    (omega (arith, f.1), l.invariant.1 ∙ next ∙ ap (λ s. read_from (end + 1) s (lines (drop (end + 1) file))) state)
