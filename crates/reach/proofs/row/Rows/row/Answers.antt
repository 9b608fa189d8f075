-- `reach::row::Rows::row` is the row as a span.
use Rattle.rdp.specs.View.{tile_of}
use Rattle.reach.proofs.Spans.{row_from, row_reached}
use Rattle.reach.proofs.row.Rows.row.Goals as goal

pub returns-clause-result_value : goal.returns-clause-result_value
returns-clause-result_value c =
    let a = c.args in
    let t = tile_of a.self.asked.tile in
    rw (c.of.ensures, a.self.value, row_from t a.self.asked.tlut c.row.result a.y c.row.ensures)
    (row_reached t a.self.asked.tlut a.y)
