-- `replaying::step::carry_out` does the load, and answers without how much was made up. Assumes nothing.
use mathlib.Core.Path.{ap, ◌∙◌}
use Rattle.rules.specs.Calls.{AllLent}
use Rattle.replaying.proofs.Loaded.{less, handed_answer, loaded_is}
use Rattle.replaying.proofs.step.carry_out.Goals.{After-load}
use Rattle.replaying.proofs.step.carry_out.Goals as goal

-- the buffers have their lengths
lent : (c : After-load) → AllLent c.args.bank.now c.args.written.now c.args.reasons.now
lent c = record { whole_bank = c.told-bank; whole_map = c.told-written; whole_reasons = c.told-reasons }

pub returns-in_err-done : goal.returns-in_err-done
returns-in_err-done c =
    handed_answer _ _ _ _ c.from_residual.ensures.1
    ∙ ap less c.in_err-done.ensures
    ∙ loaded_is c.args.asks _ _ _ _ _ (lent (goal.at.returns-in_err-done c).After-load) c.requires

pub returns : goal.returns
returns c = ap less c.in_ok-done.ensures ∙ loaded_is c.args.asks _ _ _ _ _ (lent (goal.at.returns c).After-load) c.requires
