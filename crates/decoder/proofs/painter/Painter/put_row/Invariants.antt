-- `decoder::painter::Painter::put_row` writes one texel after the other, each through the part that starts where the ones before it end.
use Rattle.decoder.specs.Rows.{placing, one_texel, told}
use Rattle.rules.specs.Reading.{given, trail, up_to}
use Rattle.rules.specs.Base.{over}
use lib.ListN.{length}
use Prim.Native.Nat.{◌≤◌}
use mathlib.Core.Path.{◌≡◌}
use Rattle.decoder.proofs.painter.Painter.put_row.Given as goal

abbrev pub invariant-loop-i : goal.invariant-loop-i
invariant-loop-i l =
    (l.i ≤ l.width)
    × (l.out ≡ over (given (up_to l.i (one_texel l.self.plan (placing l.row))) l.self.bank.now) l.initial.out)
    × (l.seen ≡ over (told l.self.plan.observe (trail (up_to l.i (one_texel l.self.plan (placing l.row))) l.self.bank.now)) l.initial.seen)
    × (length l.out ≡ length l.initial.out)
    × (length l.seen ≡ length l.initial.seen)
