-- `decoder::linear::check_linear` refuses by the first of the call's tests that fails, in their order. Assumes nothing.
use Rattle.decoder.proofs.LinearCalls.{sides}
use Rattle.rdp.proofs.Refusals.{before, after}
use Rattle.rdp.specs.View.{tile_of}
use Rattle.rules.proofs.Refused.{Passed, numbered, passed}
use Rattle.rules.specs.Calls.{linear_outside, plain_texels, short_picture}
use Rattle.rules.specs.Linear.{linear_pair}
use Rattle.rules.specs.Refusal.{◌if◌}
use Rattle.rules.specs.Tile.{linear_fields_outside}
use lib.ListN.{length}
use native.Mathlib.Nat.{mul-le-mul}
use native.Mathlib.Omega.{arith}
use Prim.Native.Nat.{◌*◌, ◌≤◌}
use mathlib.Core.Bool.{not}
use mathlib.Core.List.{[], ◌∷◌}
use mathlib.Core.Path.{refl, sym, ◌∙◌}
use Rattle.decoder.proofs.linear.check_linear.Goals.{In_ok-refuse}
use Rattle.decoder.proofs.linear.check_linear.Goals as goal

few : (c : In_ok-refuse) → let t = tile_of c.args.tile in t.width * t.height ≤ 268435456
unfolding Passed
few c =
    let fits = passed ((2 if c.fields_outside.result) ∷ []) (numbered _ refl) (sym c.in_ok-refuse.ensures) in
    let s = sides (tile_of c.args.tile) (sym c.fields_outside.ensures ∙ fits.0) in
    mul-le-mul s.width s.height

pub overflow_mul-texels-2 : goal.overflow_mul-texels-2
overflow_mul-texels-2 c = omega (arith, few (goal.at.overflow_mul-texels-2 c).In_ok-refuse)

pub returns-in_err-refuse : goal.returns-in_err-refuse
returns-in_err-refuse c =
    let t = tile_of c.args.tile in
    before _ _ ((2 if linear_fields_outside t) ∷ []) _ c.from_residual.ensures.1 (numbered _ refl)
    (rw (sym c.fields_outside.ensures) c.in_err-refuse.ensures)

pub returns-in_err-refuse-2 : goal.returns-in_err-refuse-2
returns-in_err-refuse-2 c =
    let t = tile_of c.args.tile in
    let far = linear_outside (length c.args.source.now) c.args.stride in
    after _ ((2 if linear_fields_outside t) ∷ []) _ (numbered _ refl) (rw (sym c.fields_outside.ensures) c.in_ok-refuse.ensures)
    (before _ _ ((4 if far) ∷ []) _ c.from_residual-in_err-refuse-2.ensures.1 (numbered _ refl) c.in_err-refuse-2.ensures)

pub returns-in_err-refuse-3 : goal.returns-in_err-refuse-3
returns-in_err-refuse-3 c =
    let t = tile_of c.args.tile in
    let far = linear_outside (length c.args.source.now) c.args.stride in
    after _ ((2 if linear_fields_outside t) ∷ []) _ (numbered _ refl) (rw (sym c.fields_outside.ensures) c.in_ok-refuse.ensures)
    (after _ ((4 if far) ∷ []) _ (numbered _ refl) c.in_ok-refuse-2.ensures
    (before _ _ ((5 if not (linear_pair t.fmt t.siz)) ∷ []) _ c.from_residual-in_err-refuse-3.ensures.1 (numbered _ refl)
    (rw (sym c.is_linear.ensures) c.in_err-refuse-3.ensures)))

pub returns : goal.returns
returns c =
    let t = tile_of c.args.tile in
    let far = linear_outside (length c.args.source.now) c.args.stride in
    after _ ((2 if linear_fields_outside t) ∷ []) _ (numbered _ refl) (rw (sym c.fields_outside.ensures) c.in_ok-refuse.ensures)
    (after _ ((4 if far) ∷ []) _ (numbered _ refl) c.in_ok-refuse-2.ensures
    (after _ ((5 if not (linear_pair t.fmt t.siz)) ∷ []) (short_picture (plain_texels t) c.args.out.now ∷ []) (numbered _ refl)
    (rw (sym c.is_linear.ensures) c.in_ok-refuse-3.ensures) c.refuse-4.ensures))
