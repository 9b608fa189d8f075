-- `reach::word::mark_bit` tests the two bytes of an address.
use mathlib.Core.Path.{◌∙◌}
use Rattle.reach.proofs.Bytes.{bit_shifted, bit_none, bit_some}
use Rattle.reach.proofs.word.mark_bit.Goals as goal

pub returns-then-written-i-eq0 : goal.returns-then-written-i-eq0
returns-then-written-i-eq0 c =
    let a = c.args in
    bit_none a.written.now a.at a.k c.if-written-i-eq0.true

pub returns-else-written-i-eq0 : goal.returns-else-written-i-eq0
returns-else-written-i-eq0 c =
    let a = c.args in
    bit_shifted a.k 8 c.requires.1 ∙ bit_some a.written.now a.at a.k c.if-written-i-eq0.false
