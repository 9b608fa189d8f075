-- `texdec::nibble::decode_ia4` is the rule, by what its callees ensure. Assumes nothing.
use native.Mathlib.Omega.{arith}
use Rattle.texdec.proofs.Nibbles.{nibble_small}
use Rattle.texdec.proofs.nibble.decode_ia4.Goals as goal

pub ia4_level-i-requires : goal.ia4_level-i-requires
ia4_level-i-requires c = rw c.nibble-n.ensures (nibble_small c.args.x c.args.byte (omega arith))

pub returns : goal.returns
returns c = rw (c.alpha.ensures, c.ia4_level-i.ensures, c.nibble-n.ensures)
