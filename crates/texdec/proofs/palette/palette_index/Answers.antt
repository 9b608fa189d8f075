-- `texdec::palette::palette_index` is the rule, part by part. Assumes nothing.
use Rattle.std.proofs.Common.{◌≢◌, arith}
use borrow.Author.Tests.{ne_eqb}
use Rattle.texdec.proofs.palette.palette_index.Goals as goal

pub returns-in-32 : goal.returns-in-32
returns-in-32 c = rw c.in-32.is

pub returns-in-33 : goal.returns-in-33
returns-in-33 c = rw (c.in-33.is, c.index_nibble.ensures)

pub returns-in_default : goal.returns-in_default
returns-in_default c =
    let low : c.args.part ≢ 32 = omega arith in
    let high : c.args.part ≢ 33 = omega arith in
    rw (ne_eqb _ _ low, ne_eqb _ _ high, c.nibble.ensures)
