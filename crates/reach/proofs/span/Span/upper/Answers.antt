-- `reach::span::Span::upper` is bytes of the upper half as a span.
use Rattle.reach.proofs.Spans.{upper-reached}
use Rattle.reach.proofs.span.Span.upper.Goals as goal

pub returns : goal.returns
returns c = upper-reached c.args.word c.args.bytes c.requires
