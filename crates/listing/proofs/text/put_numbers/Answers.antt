-- `listing::text::put_numbers` writes the four numbers one after the other, each where the text before it ends. There is room for each,
-- so that none is refused. Assumes nothing.
use native.Mathlib.Omega.{arith}
use Rattle.decimal.proofs.Texts.{Put, number_ok, number_put}
use Rattle.listing.proofs.Parts.{line_put}
use Rattle.listing.proofs.text.put_numbers.Goals.{After-unwrap-at, After-unwrap-at-2, After-unwrap-at-3}
use Rattle.listing.proofs.text.put_numbers.Goals as goal

-- the first number is put, the second, and the third
one : (c : After-unwrap-at) → Put c.args.refusal 32 c.args.out.now c.args.at c.put_number.new.out c.unwrap-at.result
one c = number_put _ _ _ _ (omega arith) c.put_number.ensures c.unwrap-at.ensures

two : (c : After-unwrap-at-2) → Put c.args.flag 32 c.put_number.new.out c.unwrap-at.result c.put_number-2.new.out c.unwrap-at-2.result
two c = number_put _ _ _ _ (omega (arith, (one (goal.at.After-unwrap-at-2 c).After-unwrap-at).near)) c.put_number-2.ensures
    c.unwrap-at-2.ensures

three : (c : After-unwrap-at-3) → Put c.args.kept 32 c.put_number-2.new.out c.unwrap-at-2.result c.put_number-3.new.out c.unwrap-at-3.result
three c =
    let before = goal.at.After-unwrap-at-3 c in
    number_put _ _ _ _ (omega (arith, (one before.After-unwrap-at).near, (two before.After-unwrap-at-2).near)) c.put_number-3.ensures
    c.unwrap-at-3.ensures

pub unwrap-at-requires : goal.unwrap-at-requires
unwrap-at-requires c = number_ok _ _ _ _ _ _ (omega arith) c.put_number.ensures

pub unwrap-at-requires-2 : goal.unwrap-at-requires-2
unwrap-at-requires-2 c =
    number_ok _ _ _ _ _ _ (omega (arith, (one (goal.at.unwrap-at-requires-2 c).After-unwrap-at).near)) c.put_number-2.ensures

pub unwrap-at-requires-3 : goal.unwrap-at-requires-3
unwrap-at-requires-3 c =
    let before = goal.at.unwrap-at-requires-3 c in
    number_ok _ _ _ _ _ _ (omega (arith, (one before.After-unwrap-at).near, (two before.After-unwrap-at-2).near)) c.put_number-3.ensures

pub unwrap-requires : goal.unwrap-requires
unwrap-requires c =
    let before = goal.at.unwrap-requires c in
    let near = (one before.After-unwrap-at).near in
    number_ok _ _ _ _ _ _ (omega (arith, near, (two before.After-unwrap-at-2).near, (three before.After-unwrap-at-3).near))
    c.put_number-4.ensures

pub returns : goal.returns
returns c =
    let before = goal.at.returns c in
    let p = one before.After-unwrap-at in
    let q = two before.After-unwrap-at-2 in
    let r = three before.After-unwrap-at-3 in
    let s = number_put _ _ _ _ (omega (arith, p.near, q.near, r.near)) c.put_number-4.ensures c.unwrap.ensures in
    let line = line_put _ _ _ _ c.args.out.now _ _ _ _ _ _ _ _ _ (omega arith) p q r s in
    record { value = line.0; upper_bound = line.1.0; out_after = line.1.1 }
