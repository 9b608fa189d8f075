-- `reach::word::Word::is_blank` looks at the bytes of one word or two.
use mathlib.Core.Path.{sym, ◌∙◌}
use mathlib.Core.Bool.{true≢false}
use borrow.Author.Tests.{eqb-true}
use Rattle.rules.proofs.Ranges.{both}
use Rattle.reach.proofs.Bytes.{blank_both}
use Rattle.reach.proofs.word.Word.is_blank.Goals as goal

pub returns-then-self : goal.returns-then-self
returns-then-self c h bits =
    let b = both _ _ h in
    let own = sym c.word_bytes.ensures ∙ eqb-true _ _ b.0 in
    blank_both _ _ _ bits own (λ t. sym c.word_bytes-then-self.ensures ∙ eqb-true _ _ b.1)

pub returns : goal.returns
returns c h bits =
    blank_both _ _ _ bits (sym c.word_bytes-2.ensures ∙ eqb-true _ _ h) (λ t. absurd (true≢false (sym t ∙ c.if-self.false)))
