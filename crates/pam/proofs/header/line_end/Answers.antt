-- `pam::header::line_end` finds the next newline. Assumes nothing.
use mathlib.Core.Path.{◌≡◌, ◌∙◌}
use mathlib.Core.Bool.{cond}
use native.Mathlib.Omega.{arith}
use lib.Dec.{eqb, ltb}
use lib.ListN.{length, drop, length-drop}
use lib.Seq.{take_all}
use borrow.Author.Tests.{tests}
use Rattle.std.proofs.Common.{rules}
use Rattle.std.specs.Prelude.{Some, None}
use Rattle.std.specs.List.{position_or_len}
use Rattle.std.proofs.lemmas.Iterator.{YieldsList-from_slice}
use Rattle.std.proofs.lemmas.Iterator.Search.{position_from_yields_List}
use Rattle.pam.proofs.Lines.{line_none, line_first, line_at}
use Rattle.pam.proofs.header.line_end.Goals.{After-position}
use Rattle.pam.proofs.header.line_end.Goals as goal

-- where the newline is
found : (c : After-position)
    → c.position.result ≡ cond (ltb (position_or_len (λ b. eqb b 10) (drop c.args.at c.args.file.now)) (length (drop c.args.at
    c.args.file.now)))
    (Some (position_or_len (λ b. eqb b 10) (drop c.args.at c.args.file.now)))
    None
found c =
    position_from_yields_List (λ b. eqb b 10) _ _ c.position.result c.position.ensures.ran (YieldsList-from_slice (drop c.args.at
    c.args.file.now) (c.iter.ensures.rest ∙ take_all _ _ (omega (arith, length-drop c.args.at c.args.file.now)))) (λ x b q k. search
    (rules, tests))

pub returns-in_err-length : goal.returns-in_err-length
returns-in_err-length c =
    let e = found (goal.at.returns-in_err-length c).After-position in
    rw c.from_residual.ensures (line_none (drop c.args.at c.args.file.now) _ e c.in_err-length.was)

pub returns : goal.returns
returns c =
    let p = line_first (drop c.args.at c.args.file.now) _ (found (goal.at.returns c).After-position) c.in_ok-length.length
    c.in_ok-length.was in
    (omega arith, omega (arith, p.0, length-drop c.args.at c.args.file.now), line_at c.args.file.now c.args.at c.in_ok-length.length p.1)
