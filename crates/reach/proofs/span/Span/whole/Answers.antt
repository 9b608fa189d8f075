-- `reach::span::Span::whole` is the lookup as a span.
use Rattle.rdp.specs.View.{tile_of}
use Rattle.reach.proofs.Spans.{whole_reached, bank_bytes}
use Rattle.reach.proofs.span.Span.whole.Goals as goal

pub returns : goal.returns
returns c = rw (c.words.ensures.value, c.of-part.ensures, bank_bytes) (whole_reached (tile_of c.args.asked.tile) c.args.asked.tlut)
