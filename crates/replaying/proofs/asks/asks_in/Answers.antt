-- `replaying::asks::asks_in` tests the length, the kind, and what the kind takes. Assumes nothing.
use mathlib.Core.Path.{◌∙◌}
use Rattle.rdp.proofs.Refusals.{numbered}
use Rattle.replaying.proofs.ByTests.{handed, by_length, by_kind, of_key, of_load}
use Rattle.replaying.proofs.asks.asks_in.Goals as goal

pub returns-in_err-refuse-clause-refused : goal.returns-in_err-refuse-clause-refused
returns-in_err-refuse-clause-refused c =
    handed _ _ c.from_residual.ensures.1 ∙ by_length _ _ _ c.in_err-refuse.ensures (numbered c.in_err-refuse.field-0.0)

pub returns-in_err-asked_in-clause-refused : goal.returns-in_err-asked_in-clause-refused
returns-in_err-asked_in-clause-refused c =
    handed _ _ c.from_residual-in_err-asked_in.ensures.1
    ∙ by_kind _ _ c.in_ok-refuse.ensures _ c.in_err-asked_in.ensures.refused (numbered c.in_err-asked_in.field-0.0)

pub returns-in_err-key_in-in-None-clause-refused : goal.returns-in_err-key_in-in-None-clause-refused
returns-in_err-key_in-in-None-clause-refused c =
    let asked = c.in_ok-asked_in.ensures in
    handed _ _ c.from_residual-in_err-key_in-in-None.ensures.1
    ∙ of_key _ _ c.in_ok-refuse.ensures asked.refused _ (rw c.in-None.is at asked.said) c.in_err-key_in-in-None.ensures.refused

pub returns-in_err-load_in-in-Some-clause-refused : goal.returns-in_err-load_in-in-Some-clause-refused
returns-in_err-load_in-in-Some-clause-refused c =
    let asked = c.in_ok-asked_in.ensures in
    handed _ _ c.from_residual-in_err-load_in-in-Some.ensures.1
    ∙ of_load _ _ c.in_ok-refuse.ensures asked.refused _ (rw c.in-Some.is at asked.said).no_key c.in_err-load_in-in-Some.ensures.refused

pub returns-in_ok-key_in-in-None-clause-refused : goal.returns-in_ok-key_in-in-None-clause-refused
returns-in_ok-key_in-in-None-clause-refused c =
    let asked = c.in_ok-asked_in.ensures in
    of_key _ _ c.in_ok-refuse.ensures asked.refused _ (rw c.in-None.is at asked.said) c.in_ok-key_in-in-None.ensures.refused

pub returns-in_ok-load_in-in-Some-clause-refused : goal.returns-in_ok-load_in-in-Some-clause-refused
returns-in_ok-load_in-in-Some-clause-refused c =
    let asked = c.in_ok-asked_in.ensures in
    of_load _ _ c.in_ok-refuse.ensures asked.refused _ (rw c.in-Some.is at asked.said).no_key c.in_ok-load_in-in-Some.ensures.refused
