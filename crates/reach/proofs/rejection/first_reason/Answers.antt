-- `reach::rejection::first_reason` asks the palette where the reach has none.
use Rattle.reach.proofs.Asked.{reach-answers, palette_answers}
use Rattle.reach.proofs.rejection.first_reason.Goals as goal

pub returns-then-reason-ne0 : goal.returns-then-reason-ne0
returns-then-reason-ne0 c = reach-answers _ _ _ _ (cc) c.if-reason-ne0.true

pub returns : goal.returns
returns c = palette_answers _ _ _ _ (cc) (cc)
