-- `splitter::entry::block_differs` passes over a block. The loop's invariant: where no byte differed, the bytes passed are the same.
-- Assumes nothing.
use mathlib.Core.Path.{◌≡◌}
use mathlib.Core.Bool.{false}
use Prim.Native.Nat.{◌+◌, ◌≤◌}
use Rattle.splitter.specs.Bodies.{block_size, SameUpTo}
use Rattle.splitter.proofs.entry.block_differs.Given as goal

abbrev pub invariant-loop-k : goal.invariant-loop-k
invariant-loop-k l =
    (l.k ≤ block_size) × (l.differs ≡ false → SameUpTo l.a l.b l.start → SameUpTo l.a l.b (l.start + l.k))
