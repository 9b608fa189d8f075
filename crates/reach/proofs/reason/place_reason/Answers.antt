-- `reach::reason::place_reason` reads at the one or two addresses that its contract names.
use mathlib.Core.Path.{sym, ◌∙◌}
use Rattle.reach.proofs.Asked.{place_once, place_both}
use Rattle.reach.proofs.reason.place_reason.Goals as goal

pub returns-then-word : goal.returns-then-word
returns-then-word c =
    let a = c.args in
    let both = place_both a.reasons.now a.span a.w a.k (sym c.word-word.ensures.1 ∙ c.if-word.true) in
    rw (c.or_else.ensures, c.word-word.ensures.0, c.byte.ensures, ← both)

pub returns : goal.returns
returns c =
    let a = c.args in
    rw (c.word-word.ensures.0, c.byte.ensures) (place_once a.reasons.now a.span a.w a.k (sym c.word-word.ensures.1 ∙ c.if-word.false))
