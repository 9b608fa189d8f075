-- `reach::span::Span::palette` is the palette of its size.
use Rattle.std.proofs.Common.{◌∙◌}
use Rattle.rdp.specs.View.{tile_of}
use Rattle.reach.proofs.Spans.{palette_own, palette_all}
use Rattle.reach.proofs.span.Span.palette.Goals as goal

pub returns-then-asked-eq0 : goal.returns-then-asked-eq0
returns-then-asked-eq0 c mode h = c.upper.ensures ∙ palette_own (tile_of c.args.asked.tile) mode h c.if-asked-eq0.true

pub returns : goal.returns
returns c mode h = c.upper-2.ensures ∙ palette_all (tile_of c.args.asked.tile) mode h c.if-asked-eq0.false
