-- `texdec::nibble::decode_i4` is the rule, by what its callees ensure. Assumes nothing.
use native.Mathlib.Omega.{arith}
use Rattle.texdec.proofs.Nibbles.{nibble_small}
use Rattle.texdec.proofs.nibble.decode_i4.Goals as goal

pub widen4-i-requires : goal.widen4-i-requires
widen4-i-requires c = rw c.nibble.ensures (nibble_small c.args.x c.args.byte (omega arith))

pub returns : goal.returns
returns c = rw (c.widen4-i.ensures, c.nibble.ensures)
