-- `reach::rows::four_rows` goes through rows that are not all clear.
use Rattle.std.proofs.Common.{◌≡◌, ◌*◌, sym, arith}
use Rattle.rdp.specs.View.{tile_of}
use Rattle.reach.specs.Words.{ors}
use Rattle.reach.specs.Span.{row_span, row_lanes}
use Rattle.reach.proofs.Axes.{row_bytes_some}
use Rattle.reach.proofs.Joined.{none_all, reason_search}
use Rattle.reach.proofs.Short.{four_clear}
use Rattle.reach.proofs.rows.four_rows.Goals as goal

pub four_words-requires-clause-bounds : goal.four_words-requires-clause-bounds
four_words-requires-clause-bounds c =
    (rw c.row.ensures.value (row_bytes_some _), rw c.row-2.ensures.value (row_bytes_some _), c.line-line.ensures.1)

pub returns-then-four_words-eq0 : goal.returns-then-four_words-eq0
returns-then-four_words-eq0 c =
    let a = c.args in
    let p = c.requires in
    let t = tile_of a.rows.asked.tile in
    let row = row_span t a.rows.asked.tlut in
    let zero : ors 4 (row_lanes a.reasons.now (row 0) (row 1) t.line (a.y * t.line)) ≡ 0 =
    rw (← c.row.ensures.value, ← c.row-2.ensures.value, ← c.line-line.ensures.0, ← c.four_words.ensures) c.if-four_words-eq0.true in
    sym
    (none_all (reason_search _) _ _ (λ k h.
    four_clear a.reasons.now t a.rows.asked.tlut (omega (arith, a.rows.value, p.0)) c.fits-reasons a.y p.1 zero k
    (omega arith)))
