-- `pam::word::split_token` splits at the first white space. Assumes nothing.
use mathlib.Core.Path.{◌≡◌, refl, ◌∙◌}
use mathlib.Core.Bool.{cond}
use lib.Dec.{ltb}
use lib.ListN.{length}
use Rattle.std.specs.Prelude.{Some, None}
use Rattle.std.specs.List.{position_or_len}
use borrow.Author.Tests.{tests}
use Rattle.std.proofs.Common.{rules}
use Rattle.std.proofs.lemmas.Iterator.{YieldsList-from_slice}
use Rattle.std.proofs.lemmas.Iterator.Search.{position_from_yields_List}
use Rattle.rules.specs.Pam.{white, solid}
use Rattle.pam.proofs.Words.{front_is, behind_is}
use Rattle.pam.proofs.word.split_token.Goals.{After-split_at}
use Rattle.pam.proofs.word.split_token.Goals as goal

-- where the first white space is
found : (c : After-split_at) → c.position.result ≡ cond (ltb (position_or_len white c.args.s.now) (length c.args.s.now)) (Some
    (position_or_len white c.args.s.now)) None
found c =
    position_from_yields_List white _ _ c.position.result c.position.ensures.ran (YieldsList-from_slice c.args.s.now cc)
    (λ x b q k. search (rules, tests))

pub returns-clause-token : goal.returns-clause-token
returns-clause-token c =
    c.split_at.ensures.front ∙ front_is solid white (λ b. refl) c.args.s.now _ _ (found
    (goal.at.returns-clause-token c).After-split_at) c.unwrap_or-end.ensures

pub returns-clause-rest : goal.returns-clause-rest
returns-clause-rest c =
    c.split_at.ensures.back ∙ behind_is solid white (λ b. refl) c.args.s.now _ _ (found (goal.at.returns-clause-rest c).After-split_at)
    c.unwrap_or-end.ensures
