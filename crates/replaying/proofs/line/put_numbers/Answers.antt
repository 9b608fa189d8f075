-- `replaying::line::put_numbers` writes the two numbers one after the other. There is room for both, so that none is refused.
-- Assumes nothing.
use native.Mathlib.Omega.{arith}
use Rattle.decimal.proofs.Texts.{Put, number_ok, number_put}
use Rattle.replaying.proofs.Runs.{line_put}
use Rattle.replaying.proofs.line.put_numbers.Goals.{After-unwrap-at}
use Rattle.replaying.proofs.line.put_numbers.Goals as goal

-- the first number is put
one : (c : After-unwrap-at) → Put c.args.refusal 32 c.args.out.now c.args.at c.put_number.new.out c.unwrap-at.result
one c = number_put _ _ _ _ (omega arith) c.put_number.ensures c.unwrap-at.ensures

pub unwrap-at-requires : goal.unwrap-at-requires
unwrap-at-requires c = number_ok _ _ _ _ _ _ (omega arith) c.put_number.ensures

pub unwrap-requires : goal.unwrap-requires
unwrap-requires c =
    number_ok _ _ _ _ _ _ (omega (arith, (one (goal.at.unwrap-requires c).After-unwrap-at).near)) c.put_number-2.ensures

pub returns : goal.returns
returns c =
    let p = one (goal.at.returns c).After-unwrap-at in
    let q = number_put _ _ _ _ (omega (arith, p.near)) c.put_number-2.ensures c.unwrap.ensures in
    let line = line_put _ _ c.args.out.now _ _ _ _ _ (omega arith) p q in
    record { value = line.0; upper_bound = line.1.0; out_after = line.1.1 }
