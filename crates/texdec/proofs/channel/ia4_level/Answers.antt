-- `texdec::channel::ia4_level` is the rule: the masked nibble moved up by four or by one still fits a byte. Assumes nothing.
use mathlib.Core.Path.{◌≡◌}
use Prim.Native.Nat.{◌*◌, ◌%◌, ◌≤◌}
use native.Mathlib.Omega.{arith}
use lib.Bits.{bit_and, and_le_r}
use Rattle.texdec.proofs.channel.ia4_level.Goals as goal

pub returns : goal.returns
returns c = let small : bit_and c.args.n 14 ≤ 14 = and_le_r c.args.n 14 in
    let four : bit_and c.args.n 14 * 16 % 256 ≡ bit_and c.args.n 14 * 16 = omega arith in
    let one : bit_and c.args.n 14 * 2 % 256 ≡ bit_and c.args.n 14 * 2 = omega arith in
    rw (four, one)
