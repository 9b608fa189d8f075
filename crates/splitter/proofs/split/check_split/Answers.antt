-- `splitter::split::check_split` refuses by the first test that fails. Assumes nothing.
use mathlib.Core.Path.{refl}
use mathlib.Core.Bool.{not}
use mathlib.Core.List.{[], ◌∷◌}
use Prim.Native.Nat.{◌*◌}
use lib.Dec.{eqb, ltb}
use lib.ListN.{length}
use Rattle.rules.specs.Refusal.{Test, ◌if◌}
use Rattle.rules.specs.Split.{entry_limit, entry_size}
use Rattle.rules.proofs.Refused.{numbered}
use Rattle.rdp.proofs.Refusals.{before, after}
use Rattle.splitter.proofs.split.check_split.Goals.{In_ok-refuse, In_ok-refuse-2}
use Rattle.splitter.proofs.split.check_split.Goals as goal

abbrev many : (c : In_ok-refuse) → Test
many c = 16 if ltb entry_limit c.args.count

abbrev entries : (c : In_ok-refuse) → Test
entries c = 17 if not (eqb (length c.args.entries.now) (c.args.count * entry_size))

pub returns-in_err-refuse : goal.returns-in_err-refuse
returns-in_err-refuse c =
    before _ _ ((16 if ltb entry_limit c.args.count) ∷ []) _ c.from_residual.ensures.1 (numbered _ refl) c.in_err-refuse.ensures

pub returns-in_err-refuse-2 : goal.returns-in_err-refuse-2
returns-in_err-refuse-2 c =
    let o = (goal.at.returns-in_err-refuse-2 c).In_ok-refuse in
    before _ _ (many o ∷ entries o ∷ []) _ c.from_residual-in_err-refuse-2.ensures.1 (numbered _ refl)
    (after _ (many o ∷ []) (entries o ∷ []) (numbered _ refl) c.in_ok-refuse.ensures c.in_err-refuse-2.ensures)

pub returns : goal.returns
returns c =
    let o = (goal.at.returns c).In_ok-refuse in
    after _ (many o ∷ entries o ∷ []) _ (numbered _ refl)
    (after _ (many o ∷ []) (entries o ∷ []) (numbered _ refl) c.in_ok-refuse.ensures c.in_ok-refuse-2.ensures) c.refuse-3.ensures
