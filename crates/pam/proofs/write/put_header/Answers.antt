-- `pam::write::put_header` writes five parts one after the other. Assumes nothing.
use mathlib.Core.Path.{ap, ◌∙◌}
use mathlib.Core.List.{[]}
use Prim.Native.Nat.{◌≤◌}
use native.Mathlib.Omega.{arith}
use lib.ListN.{length}
use Rattle.rules.specs.Base.{over}
use Rattle.rules.specs.Lister.{number_text}
use Rattle.rules.specs.Pam.{text}
use Rattle.decimal.proofs.Texts.{Put, number_ok, number_put}
use Rattle.decimal.proofs.Writes.{wrote_none, wrote_more}
use Rattle.pam.proofs.Files.{header_parts_lem, header_short}
use Rattle.pam.proofs.write.put_header.Goals.{After-unwrap-at, After-unwrap-at-2}
use Rattle.pam.proofs.write.put_header.Goals as goal

pub unwrap-at-requires : goal.unwrap-at-requires
unwrap-at-requires c =
    number_ok c.args.width 10 c.put_part-at.new.out c.put_part-at.result _ c.put_number.new.out (omega (
      arith,
      c.put_part-at.ensures.value,
    )) c.put_number.ensures

-- what the numbers leave, and where they end
wide : (c : After-unwrap-at)
    → Put c.args.width 10 c.put_part-at.new.out c.put_part-at.result c.put_number.new.out c.unwrap-at.result
wide c = number_put _ 10 _ _ (omega (arith, c.put_part-at.ensures.value)) c.put_number.ensures c.unwrap-at.ensures

near : (c : After-unwrap-at) → c.unwrap-at.result ≤ 20
near c = omega (arith, (wide c).near, c.put_part-at.ensures.value)

pub put_part-at-requires-2 : goal.put_part-at-requires-2
put_part-at-requires-2 c = omega (arith, near (goal.at.put_part-at-requires-2 c).After-unwrap-at)

pub unwrap-at-requires-2 : goal.unwrap-at-requires-2
unwrap-at-requires-2 c =
    let n = near (goal.at.unwrap-at-requires-2 c).After-unwrap-at in
    number_ok c.args.height 10 c.put_part-at-2.new.out c.put_part-at-2.result _ c.put_number-2.new.out (omega (
      arith,
      n,
      c.put_part-at-2.ensures.value,
    )) c.put_number-2.ensures

high : (c : After-unwrap-at-2)
    → Put c.args.height 10 c.put_part-at-2.new.out c.put_part-at-2.result c.put_number-2.new.out c.unwrap-at-2.result
high c =
    let n = near (goal.at.After-unwrap-at-2 c).After-unwrap-at in
    number_put _ 10 _ _ (omega (arith, n, c.put_part-at-2.ensures.value)) c.put_number-2.ensures c.unwrap-at-2.ensures

near-2 : (c : After-unwrap-at-2) → c.unwrap-at-2.result ≤ 38
near-2 c =
    let n = near (goal.at.After-unwrap-at-2 c).After-unwrap-at in
    omega (arith, (high c).near, n, c.put_part-at-2.ensures.value)

pub put_part-requires : goal.put_part-requires
put_part-requires c = omega (arith, near-2 (goal.at.put_part-requires c).After-unwrap-at-2)

pub returns : goal.returns
unfolding text
returns c =
    let a = c.args in
    let out = a.out.now in
    let e1 = c.put_part-at.ensures in
    let e2 = wide (goal.at.returns c).After-unwrap-at in
    let e3 = c.put_part-at-2.ensures in
    let e4 = high (goal.at.returns c).After-unwrap-at-2 in
    let e5 = c.put_part.ensures in
    let one = wrote_more [] out 0 out (text "P7\nWIDTH ") _ _ (wrote_none out) e1.value e1.out_after in
    let two = wrote_more _ out _ _ (number_text a.width 10) _ _ one e2.ends e2.is in
    let three = wrote_more _ out _ _ (text "HEIGHT ") _ _ two e3.value e3.out_after in
    let four = wrote_more _ out _ _ (number_text a.height 10) _ _ three e4.ends e4.is in
    let five = wrote_more _ out _ _ (text "DEPTH 4\nMAXVAL 255\nTUPLTYPE RGB_ALPHA\nENDHDR\n") _ _ four e5.value e5.out_after in
    let parts = header_parts_lem a.width a.height in
    let size = five.end ∙ ap length parts in
    record {
      value = size;
      short = omega (arith, size, header_short a.width a.height);
      out_after = five.is ∙ ap (λ t. over t out) parts;
    }
