-- `listing::list::list` is refused where it found too little room, and else writes. Assumes nothing.
use mathlib.Core.Path.{◌≡◌, sym}
use mathlib.Core.List.{[], ◌∷◌}
use Prim.Native.Nat.{ℕ, ◌+◌, ◌*◌, ◌/◌, ◌≤◌}
use native.Mathlib.Omega.{arith}
use lib.Dec.{ltb}
use lib.ListN.{length}
use borrow.Author.Tests.{ltb-false}
use Rattle.rules.specs.Refusal.{◌if◌, first}
use Rattle.rules.proofs.Refused.{first_zero}
use Rattle.rules.specs.Lister.{record_size, line_room, list_call}
use Rattle.decimal.proofs.Texts.{text_done}
use Rattle.rdp.proofs.Refusals.{refused_call}
use Rattle.listing.proofs.list.list.Goals as goal

-- where the test passed, there is room
enough : {n m : ℕ} → 0 ≡ first ((6 if ltb n m) ∷ []) → m ≤ n
enough e = ltb-false _ _ (first_zero _ [] (λ z. omega arith) (sym e)).0

pub returns-in_err-refuse : goal.returns-in_err-refuse
unfolding list_call
returns-in_err-refuse c = refused_call _ _ _ _ _ _ _ c.from_residual.ensures.1 c.in_err-refuse.ensures

pub put_lines-requires : goal.put_lines-requires
put_lines-requires c = enough c.in_ok-refuse.ensures

pub returns : goal.returns
unfolding list_call
returns c =
    let a = c.args in
    let e = c.put_lines.ensures in
    text_done (line_room * (length a.input.now / record_size + 1)) a.out.now _ _ (enough c.in_ok-refuse.ensures) e.value e.out_after
