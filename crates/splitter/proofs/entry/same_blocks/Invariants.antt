-- `splitter::entry::same_blocks` passes over the blocks that are the same. The loop's invariant: all bytes passed are. Assumes nothing.
use Prim.Native.Nat.{◌*◌, ◌≤◌}
use Rattle.splitter.specs.Bodies.{block_size, SameUpTo}
use Rattle.splitter.proofs.entry.same_blocks.Given as goal

abbrev pub invariant-loop-k : goal.invariant-loop-k
invariant-loop-k l = (l.k ≤ 64) × SameUpTo l.a l.b (block_size * l.k)
