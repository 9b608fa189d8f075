-- `pam::refused::check_read` refuses by the first test that fails. Assumes nothing.
use mathlib.Core.Path.{◌≡◌, refl, sym, ◌∙◌}
use mathlib.Core.Bool.{false}
use Prim.Native.Nat.{◌-◌}
use native.Mathlib.Omega.{arith}
use lib.Dec.{ltb}
use Rattle.rules.specs.Tile.{sides_outside}
use Rattle.rules.specs.Refusal.{first}
use Rattle.rules.specs.Pam.{texel_bytes}
use Rattle.rules.proofs.Refused.{numbered}
use Rattle.pam.specs.Gather.{other_by}
use Rattle.pam.proofs.Sides.{within}
use Rattle.pam.proofs.Ones.{passed_one, refused_one}
use Rattle.pam.proofs.refused.check_read.Goals.{In_ok-refuse, In_ok-refuse-2, In_ok-refuse-3}
use Rattle.pam.proofs.refused.check_read.Goals as goal

-- the tests that passed
tuples : (c : In_ok-refuse) → other_by c.args.header ≡ false
tuples c = sym c.has_other_tuples.ensures ∙ passed_one 14 _ (λ z. omega arith) c.in_ok-refuse.ensures

sides : (c : In_ok-refuse-2) → sides_outside c.args.header.width c.args.header.height ≡ false
sides c = sym c.sides_outside.ensures ∙ passed_one 2 _ (λ z. omega arith) c.in_ok-refuse-2.ensures

texels : (c : In_ok-refuse-3) → ltb (c.args.file - c.args.header.size) (texel_bytes c.args.header.width c.args.header.height) ≡ false
texels c = rw c.texel_bytes-texels.ensures at (passed_one 15 _ (λ z. omega arith) c.in_ok-refuse-3.ensures)

pub returns-in_err-refuse : goal.returns-in_err-refuse
unfolding first
returns-in_err-refuse c =
    refused_one _ _ 14 (other_by c.args.header) _ c.from_residual.ensures.1 (numbered _ refl) (rw (sym c.has_other_tuples.ensures)
    c.in_err-refuse.ensures)

pub returns-in_err-refuse-2 : goal.returns-in_err-refuse-2
unfolding first
returns-in_err-refuse-2 c =
    rw (tuples (goal.at.returns-in_err-refuse-2 c).In_ok-refuse)
    (refused_one _ _ 2 (sides_outside c.args.header.width c.args.header.height) _ c.from_residual-in_err-refuse-2.ensures.1
    (numbered _ refl)
    (rw (sym c.sides_outside.ensures) c.in_err-refuse-2.ensures))

pub texel_bytes-texels-requires : goal.texel_bytes-texels-requires
texel_bytes-texels-requires c =
    let w = within _ _ (sides (goal.at.texel_bytes-texels-requires c).In_ok-refuse-2) in
    record { wide = w.width; high = w.height }

pub returns-in_err-refuse-3 : goal.returns-in_err-refuse-3
unfolding first
returns-in_err-refuse-3 c =
    rw (tuples (goal.at.returns-in_err-refuse-3 c).In_ok-refuse, sides (goal.at.returns-in_err-refuse-3 c).In_ok-refuse-2)
    (refused_one _ _ 15 (ltb (c.args.file - c.args.header.size) (texel_bytes c.args.header.width c.args.header.height)) _
    c.from_residual-in_err-refuse-3.ensures.1 (numbered _ refl) (rw (sym c.texel_bytes-texels.ensures) c.in_err-refuse-3.ensures))

pub returns : goal.returns
unfolding first
returns c =
    rw (tuples (goal.at.returns c).In_ok-refuse, sides (goal.at.returns c).In_ok-refuse-2, texels (goal.at.returns c).In_ok-refuse-3)
    (rw (sym c.texel_bytes-texels.ensures) c.refuse-4.ensures)
