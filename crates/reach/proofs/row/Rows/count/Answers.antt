-- `reach::row::Rows::count` is the rules' number of rows.
use Rattle.std.proofs.Common.{arith}
use Rattle.rdp.specs.View.{tile_of}
use Rattle.reach.proofs.Axes.{rows_le}
use Rattle.reach.proofs.row.Rows.count.Goals as goal

pub returns : goal.returns
returns c = (c.reach_rows.ensures, omega (arith, c.reach_rows.ensures, rows_le (tile_of c.args.self.asked.tile)))
