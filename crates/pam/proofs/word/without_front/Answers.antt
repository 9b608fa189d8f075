-- `pam::word::without_front` goes from the first byte that is no white space. Assumes nothing.
use borrow.Author.Tests.{tests}
use Rattle.std.proofs.Common.{rules}
use Rattle.std.proofs.lemmas.Iterator.{YieldsList-from_slice}
use Rattle.std.proofs.lemmas.Iterator.Search.{position_from_yields_List}
use Rattle.rules.specs.Pam.{white, solid}
use Rattle.pam.proofs.Words.{not_solid, part_is}
use Rattle.pam.proofs.word.without_front.Goals as goal

pub returns : goal.returns
returns c =
    let found = position_from_yields_List solid _ _ c.position.result c.position.ensures.ran (YieldsList-from_slice c.args.s.now cc)
    (λ x b q k. search (rules, tests)) in
    part_is white solid not_solid c.args.s.now _ _ found c.unwrap_or-start.ensures
