-- `pam::refused::check_write` refuses by the first test that fails: the sides' own first, since their product may not fit. Assumes nothing.
use mathlib.Core.Path.{◌≡◌, refl, sym, ◌∙◌}
use mathlib.Core.Bool.{false, ◌||◌}
use native.Mathlib.Omega.{arith}
use native.Mathlib.Nat.{mul-le-mul}
use lib.Dec.{eqb, ltb}
use lib.ListN.{length}
use Rattle.rules.specs.Tile.{sides_outside}
use Rattle.rules.specs.Refusal.{first}
use Rattle.rules.specs.Pam.{texel_bytes}
use Rattle.rules.proofs.Refused.{numbered}
use Rattle.pam.proofs.Files.{header_short}
use Rattle.pam.proofs.Sides.{Within, within}
use Rattle.pam.proofs.Ones.{passed_one, refused_one}
use Rattle.pam.proofs.refused.check_write.Goals.{In_ok-refuse, In_ok-refuse-2, In_ok-refuse-3}
use Rattle.pam.proofs.refused.check_write.Goals as goal

-- the tests that passed
sides : (c : In_ok-refuse) → sides_outside c.args.width c.args.height ≡ false
sides c = sym c.sides_outside.ensures ∙ passed_one 2 _ (λ z. omega arith) c.in_ok-refuse.ensures

inside : (c : In_ok-refuse) → Within c.args.width c.args.height
inside c = within _ _ (sides c)

zero_side : (c : In_ok-refuse-2) → (eqb c.args.width 0 || eqb c.args.height 0) ≡ false
zero_side c = passed_one 12 _ (λ z. omega arith) c.in_ok-refuse-2.ensures

picture : (c : In_ok-refuse-3) → ltb (length c.args.picture.now) (texel_bytes c.args.width c.args.height) ≡ false
picture c = rw c.texel_bytes-texels.ensures at (passed_one 6 _ (λ z. omega arith) c.in_ok-refuse-3.ensures)

pub returns-in_err-refuse : goal.returns-in_err-refuse
unfolding first
returns-in_err-refuse c =
    refused_one _ _ 2 (sides_outside c.args.width c.args.height) _ c.from_residual.ensures.1 (numbered _ refl) (rw (sym
    c.sides_outside.ensures) c.in_err-refuse.ensures)

pub texel_bytes-texels-requires : goal.texel_bytes-texels-requires
texel_bytes-texels-requires c =
    let w = inside (goal.at.texel_bytes-texels-requires c).In_ok-refuse in
    record { wide = w.width; high = w.height }

pub returns-in_err-refuse-2 : goal.returns-in_err-refuse-2
unfolding first
returns-in_err-refuse-2 c =
    rw (sides (goal.at.returns-in_err-refuse-2 c).In_ok-refuse)
    (refused_one _ _ 12 (eqb c.args.width 0 || eqb c.args.height 0) _ c.from_residual-in_err-refuse-2.ensures.1 (numbered _ refl)
    c.in_err-refuse-2.ensures)

pub returns-in_err-refuse-3 : goal.returns-in_err-refuse-3
unfolding first
returns-in_err-refuse-3 c =
    rw (sides (goal.at.returns-in_err-refuse-3 c).In_ok-refuse, zero_side (goal.at.returns-in_err-refuse-3 c).In_ok-refuse-2)
    (refused_one _ _ 6 (ltb (length c.args.picture.now) (texel_bytes c.args.width c.args.height)) _
    c.from_residual-in_err-refuse-3.ensures.1
    (numbered _ refl) (rw (sym c.texel_bytes-texels.ensures) c.in_err-refuse-3.ensures))

pub overflow_add-header : goal.overflow_add-header
overflow_add-header c =
    let w = inside (goal.at.overflow_add-header c).In_ok-refuse in
    let small = header_short c.args.width c.args.height in
    omega (arith, c.requires, small, c.texel_bytes-texels.ensures, mul-le-mul w.width w.height)

pub returns : goal.returns
unfolding first
returns c =
    rw (sides (goal.at.returns c).In_ok-refuse, zero_side (goal.at.returns c).In_ok-refuse-2, picture (goal.at.returns c).In_ok-refuse-3)
    (rw (sym c.texel_bytes-texels.ensures, sym c.requires) c.refuse-4.ensures)
