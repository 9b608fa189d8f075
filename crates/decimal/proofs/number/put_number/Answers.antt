-- `decimal::number::put_number` is refused where it found too little room, and else writes. Assumes nothing.
use mathlib.Core.Path.{sym, ◌∙◌}
use Prim.Native.Nat.{◌+◌, ◌≤◌}
use lib.ListN.{length}
use borrow.Author.Tests.{ltb-true, ltb-false}
use Rattle.rules.specs.Lister.{number_room, number_call}
use Rattle.decimal.proofs.Texts.{text-refused, text_done}
use Rattle.decimal.proofs.number.put_number.Goals.{Else-is_short}
use Rattle.decimal.proofs.number.put_number.Goals as goal

pub returns-then-is_short : goal.returns-then-is_short
unfolding number_call
returns-then-is_short c =
    text-refused (c.args.at + number_room) c.args.out.now _ _ (ltb-true _ _ (sym c.is_short.ensures ∙ c.if-is_short.true))

-- there is room
enough : (c : Else-is_short) → c.args.at + number_room ≤ length c.args.out.now
enough c = ltb-false _ _ (sym c.is_short.ensures ∙ c.if-is_short.false)

pub returns : goal.returns
unfolding number_call
returns c =
    let w = c.write_number.ensures in
    text_done (c.args.at + number_room) c.args.out.now _ _ (enough (goal.at.returns c).Else-is_short) w.value w.out_after
