-- `decoder::format::Format::of_tile` is the format of the tile's pair, by its place in the rule's list. Assumes nothing.
use Rattle.decoder.proofs.Formats.{placed, last}
use native.Mathlib.Omega.{arith}
use Prim.Native.Nat.{◌+◌, ◌*◌}
use Rattle.decoder.proofs.format.Format.of_tile.Goals as goal

pub returns-in-2 : goal.returns-in-2
returns-in-2 c = rw (placed _ _ c.requires.in_range.1, c.in-2.is)

pub returns-in-3 : goal.returns-in-3
returns-in-3 c = rw (placed _ _ c.requires.in_range.1, c.in-3.is)

pub returns-in-8 : goal.returns-in-8
returns-in-8 c = rw (placed _ _ c.requires.in_range.1, c.in-8.is)

pub returns-in-9 : goal.returns-in-9
returns-in-9 c = rw (placed _ _ c.requires.in_range.1, c.in-9.is)

pub returns-in-10 : goal.returns-in-10
returns-in-10 c = rw (placed _ _ c.requires.in_range.1, c.in-10.is)

pub returns-in-11 : goal.returns-in-11
returns-in-11 c = rw (placed _ _ c.requires.in_range.1, c.in-11.is)

pub returns-in-12 : goal.returns-in-12
returns-in-12 c = rw (placed _ _ c.requires.in_range.1, c.in-12.is)

pub returns-in-13 : goal.returns-in-13
returns-in-13 c = rw (placed _ _ c.requires.in_range.1, c.in-13.is)

pub returns-in-14 : goal.returns-in-14
returns-in-14 c = rw (placed _ _ c.requires.in_range.1, c.in-14.is)

pub returns-in-16 : goal.returns-in-16
returns-in-16 c = rw (placed _ _ c.requires.in_range.1, c.in-16.is)

pub returns-in_default : goal.returns-in_default
returns-in_default c =
    let p = placed c.args.tile.fmt c.args.tile.siz c.requires.in_range.1 in
    let known_at = rw p at c.requires.knows in
    let n = 4 * c.args.tile.fmt + c.args.tile.siz in
    let format =
    last n known_at (omega arith) (omega arith) (omega arith) (omega arith) (omega arith) (omega arith) (omega arith)
    (omega arith) (omega arith) (omega arith) in
    rw (p, format)
