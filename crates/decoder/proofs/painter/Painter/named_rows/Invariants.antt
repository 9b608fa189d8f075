-- `decoder::painter::Painter::named_rows` writes one row after the other, each through the part that starts where the ones before it end.
use Rattle.decoder.proofs.Placed.{row_by}
use Rattle.decoder.specs.Rows.{told}
use Rattle.rules.specs.Reading.{given, trail, up_to}
use Rattle.rules.specs.Base.{over}
use lib.ListN.{length}
use Prim.Native.Nat.{◌≤◌}
use mathlib.Core.Path.{◌≡◌}
use Rattle.decoder.proofs.painter.Painter.named_rows.Given as goal

abbrev pub invariant-loop-y : goal.invariant-loop-y
invariant-loop-y g l =
    (l.y ≤ l.rows)
    × (l.out ≡ over (given (up_to l.y (row_by l.self.plan)) l.self.bank.now) l.initial.out)
    × (l.seen ≡ over (told l.self.plan.observe (trail (up_to l.y (row_by l.self.plan)) l.self.bank.now)) l.initial.seen)
    × (length l.out ≡ length l.initial.out)
    × (length l.seen ≡ length l.initial.seen)
