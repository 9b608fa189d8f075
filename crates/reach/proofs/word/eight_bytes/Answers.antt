-- `reach::word::eight_bytes` reads eight bytes at once.
use Rattle.std.proofs.Common.{◌≡◌, ◌+◌, ◌-◌, ◌∙◌, ap, arith}
use Rattle.std.specs.Int.{w64, from_le_bytes}
use Rattle.reach.proofs.Bytes.{sum_eight}
use Rattle.reach.proofs.word.eight_bytes.Goals as goal

pub returns : goal.returns
returns c =
    let a = c.args in
    let long : a.from + 8 - a.from ≡ 8 = omega arith in
    let whole = rw (c.unwrap.ensures, long) at c.try_into.ensures.1 in
    c.from_le_bytes.ensures ∙ ap (from_le_bytes w64) whole.same ∙ sum_eight a.bytes.now a.from (λ i. omega (arith, c.type_inv.bytes i))
