-- `reach::rows::row_reason` asks the one word of a short row, else the words of its span.
use Rattle.std.proofs.Common.{◌<◌, ap, sym, ◌∙◌, arith}
use borrow.Author.Tests.{ne_eqb}
use Rattle.rules.specs.Reach.{row_bytes, first_reason}
use Rattle.rdp.specs.View.{tile_of}
use Rattle.reach.proofs.Axes.{row_bytes_some}
use Rattle.reach.proofs.Spans.{row_reached, only_word}
use Rattle.reach.specs.Span.{row_span}
use Rattle.reach.proofs.rows.row_reason.Goals as goal

pub word_reason-requires : goal.word_reason-requires
word_reason-requires g c = rw c.row.ensures.value (row_bytes_some _)

pub returns-then-this-ne0 : goal.returns-then-this-ne0
returns-then-this-ne0 g c =
    let a = c.args in
    let t = tile_of a.rows.asked.tile in
    let some : 0 < row_bytes t = row_bytes_some _ in
    let short = c.requires.short (rw (ne_eqb g.row.SHORT 0 c.if-this-ne0.true)) in
    let one = only_word (row_span t a.rows.asked.tlut a.y) (omega (arith, some, a.rows.value, short)) in
    c.word_reason.ensures ∙ ap (first_reason a.reasons.now) (rw c.row.ensures.value (sym one ∙ row_reached t a.rows.asked.tlut a.y))
