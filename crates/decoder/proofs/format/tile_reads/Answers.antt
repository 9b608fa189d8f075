-- `decoder::format::tile_reads` is the count of the tile's format, or 3. Assumes nothing.
use Rattle.decoder.proofs.Formats.{direct-known}
use Rattle.rules.specs.Picture.{reads_each}
use borrow.Author.Tests.{le-leb, lt-leb}
use Rattle.decoder.proofs.format.tile_reads.Goals as goal

pub returns-then-picture-ge2-clause-value : goal.returns-then-picture-ge2-clause-value
unfolding reads_each
returns-then-picture-ge2-clause-value c = rw (le-leb _ _ c.if-picture-ge2.true)

pub of_tile-requires-clause-knows : goal.of_tile-requires-clause-knows
of_tile-requires-clause-knows c = direct-known _ _ _ c.if-picture-ge2.false c.args.picture.pair_accepted

pub returns-clause-value : goal.returns-clause-value
unfolding reads_each
returns-clause-value c = rw (lt-leb _ _ c.if-picture-ge2.false, ← c.of_tile.ensures) c.reads.ensures.value
