-- `rdp::tile::check_tile_and_mode` refuses by the first test that fails. Assumes nothing.
use mathlib.Core.Path.{refl, sym}
use mathlib.Core.List.{[], ◌∷◌}
use Rattle.rules.specs.Calls.{bad_tile, bad_mode}
use Rattle.rules.proofs.Refused.{numbered}
use Rattle.rdp.specs.View.{tile_of}
use Rattle.rdp.proofs.Refusals.{before, after}
use Rattle.rdp.proofs.tile.check_tile_and_mode.Goals as goal

pub returns-in_err-refuse : goal.returns-in_err-refuse
returns-in_err-refuse c =
    before _ _ (bad_tile (tile_of c.args.tile) ∷ []) (bad_mode c.args.mode ∷ []) c.from_residual.ensures.1 (numbered _ refl)
    (rw (sym c.outside.ensures) c.in_err-refuse.ensures)

pub returns : goal.returns
returns c = after _ (bad_tile (tile_of c.args.tile) ∷ []) (bad_mode c.args.mode ∷ []) (numbered _ refl)
    (rw (sym c.outside.ensures) c.in_ok-refuse.ensures) (rw (sym c.mode_outside.ensures) c.refuse-2.ensures)
