-- `pam::word::without_end` drops white space from the end. Assumes nothing.
use mathlib.Core.Path.{◌≡◌, ap, sym, ◌∙◌}
use lib.ListN.{length}
use borrow.Author.Rules.{rules}
use Rattle.rules.specs.Pam.{cut}
use Rattle.pam.proofs.Words.{cut-white, cut-kept, cut_none}
use Rattle.pam.proofs.word.without_end.Goals as goal

pub loop-last-preserved : goal.loop-last-preserved
loop-last-preserved c =
    c.loop-last.invariant ∙ ap cut c.in-Some.ensures.cases.0 ∙ cut-white _ _ (sym c.is_white.ensures ∙ c.if-is_white.true)

pub returns-in-loop-last : goal.returns-in-loop-last
returns-in-loop-last c =
    let none : length c.loop-last.left.now ≡ 0 = search rules in
    sym (c.loop-last.invariant ∙ cut_none _ none)

pub returns-else-is_white : goal.returns-else-is_white
returns-else-is_white c =
    let e = c.in-Some.ensures.cases.0 in
    sym (c.loop-last.invariant ∙ ap cut e ∙ cut-kept _ _ (sym c.is_white.ensures ∙ c.if-is_white.false) ∙ sym e)
