-- `decoder::refused::check_room` refuses by the first test of the buffers that fails; the reads are few. Assumes nothing.
use Rattle.decoder.proofs.Lengths.{reads_few}
use Rattle.decoder.specs.Sizes.{texels_by}
use Rattle.rdp.proofs.Refusals.{before, after}
use Rattle.rdp.specs.View.{tile_of}
use Rattle.rules.proofs.Refused.{numbered}
use Rattle.rules.specs.Calls.{short_picture}
use Rattle.rules.specs.Refusal.{◌if◌, Test}
use Rattle.rules.specs.Tile.{side_limit}
use lib.Dec.{ltb}
use lib.ListN.{length}
use native.Mathlib.Nat.{mul-le-mul}
use native.Mathlib.Omega.{arith}
use Prim.Native.Nat.{◌*◌, ◌/◌, ◌≤◌}
use mathlib.Core.Bool.{◌&&◌}
use mathlib.Core.List.{[], ◌∷◌}
use mathlib.Core.Path.{refl, sym}
use Rattle.decoder.proofs.refused.check_room.Goals.{After-texels-texels, Start}
use Rattle.decoder.proofs.refused.check_room.Goals as goal

-- the tests
picture : Start → Test
picture c = let p = c.args.plan in short_picture (texels_by p.lookup (tile_of p.picture.tile)) c.args.out.now

trail : Start → Test
trail c =
    let p = c.args.plan in
    7 if (p.observe && ltb (length c.args.seen.now / 2) (p.each * texels_by p.lookup (tile_of p.picture.tile)))

few : (c : After-texels-texels) → c.args.plan.each * c.texels-texels.result ≤ 4 * (side_limit * side_limit)
few c =
    let p = c.args.plan in
    let each : p.each ≤ 4 = rw p.each_is (reads_few (tile_of p.picture.tile) p.picture.tlut) in
    mul-le-mul each c.texels-texels.ensures.upper_bound

pub overflow_mul-reads : goal.overflow_mul-reads
overflow_mul-reads c = omega (arith, few (goal.at.overflow_mul-reads c).After-texels-texels)

pub overflow_cast-result : goal.overflow_cast-result
overflow_cast-result c = omega (arith, few (goal.at.overflow_cast-result c).After-texels-texels)

pub returns-in_err-refuse-clause-refused : goal.returns-in_err-refuse-clause-refused
unfolding picture trail
returns-in_err-refuse-clause-refused c =
    let s = (goal.at.returns-in_err-refuse-clause-refused c).Start in
    before _ _ (picture s ∷ []) (trail s ∷ []) c.from_residual.ensures.1 (numbered _ refl)
    (rw (sym c.texels-texels.ensures.value) c.in_err-refuse.ensures)

pub returns-in_err-refuse-2-clause-refused : goal.returns-in_err-refuse-2-clause-refused
unfolding picture trail
returns-in_err-refuse-2-clause-refused c =
    let s = (goal.at.returns-in_err-refuse-2-clause-refused c).Start in
    after _ (picture s ∷ []) _ (numbered _ refl) (rw (sym c.texels-texels.ensures.value) c.in_ok-refuse.ensures)
    (before _ _ (trail s ∷ []) [] c.from_residual-in_err-refuse-2.ensures.1 (numbered _ refl)
    (rw (sym c.texels-texels.ensures.value) c.in_err-refuse-2.ensures))

pub returns-clause-refused : goal.returns-clause-refused
unfolding picture trail
returns-clause-refused c =
    let s = (goal.at.returns-clause-refused c).Start in
    after _ (picture s ∷ []) (trail s ∷ []) (numbered _ refl) (rw (sym c.texels-texels.ensures.value) c.in_ok-refuse.ensures)
    (rw (sym c.texels-texels.ensures.value) c.in_ok-refuse-2.ensures)
