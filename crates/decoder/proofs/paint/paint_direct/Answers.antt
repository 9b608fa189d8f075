-- `decoder::paint::paint_direct` is the picture, by the table of its format. Assumes nothing.
use Rattle.decoder.proofs.Formats.{direct-known}
use Rattle.decoder.proofs.paint.paint_direct.Goals as goal

pub of_tile-format-requires-clause-knows : goal.of_tile-format-requires-clause-knows
of_tile-format-requires-clause-knows c = direct-known _ _ _ c.requires.mode c.args.plan.picture.pair_accepted
