-- `texdec::pair::Picture::new` refuses by the first test that fails: of tile and mode, of the lane, of the pair. Where none does, all that
-- a picture is takes hold. Assumes nothing.
use mathlib.Core.Path.{◌≡◌, refl, sym}
use mathlib.Core.Bool.{Bool, not}
use mathlib.Core.List.{[], ◌∷◌}
use Prim.Native.Nat.{ℕ}
use borrow.Author.Tests.{ltb-false}
use Rattle.rules.specs.Tile.{Tile, lane_outside}
use Rattle.rules.specs.Texdec.{accepted}
use Rattle.rules.specs.Refusal.{◌if◌, first}
use Rattle.rules.specs.Calls.{sampling_tests, pair_tests, bad_lane, bad_pair}
use Rattle.rules.proofs.Allowed.{allowed}
use Rattle.rules.proofs.Refused.{Passed, numbered, passed}
use Rattle.rdp.specs.View.{tile_of}
use Rattle.rdp.proofs.Refusals.{before, after}
use Rattle.texdec.proofs.pair.Picture.new.Goals as goal

pub returns-in_err-check_tile_and_mode-clause-refused : goal.returns-in_err-check_tile_and_mode-clause-refused
returns-in_err-check_tile_and_mode-clause-refused c =
    let a = c.args in
    before _ _ (sampling_tests (tile_of a.tile) a.tlut) (bad_lane a.lane ∷ bad_pair (tile_of a.tile) a.tlut ∷ [])
    c.from_residual.ensures.1 (numbered _ refl) c.in_err-check_tile_and_mode.ensures

pub returns-in_err-refuse-clause-refused : goal.returns-in_err-refuse-clause-refused
returns-in_err-refuse-clause-refused c =
    let a = c.args in
    after _ (sampling_tests (tile_of a.tile) a.tlut) _ (numbered _ refl) c.in_ok-check_tile_and_mode.ensures
    (before _ _ (bad_lane a.lane ∷ []) (bad_pair (tile_of a.tile) a.tlut ∷ []) c.from_residual-in_err-refuse.ensures.1 (numbered _ refl)
    (rw (sym c.lane_outside.ensures) c.in_err-refuse.ensures))

pub returns-in_err-refuse-2-clause-refused : goal.returns-in_err-refuse-2-clause-refused
returns-in_err-refuse-2-clause-refused c =
    let a = c.args in
    after _ (sampling_tests (tile_of a.tile) a.tlut) _ (numbered _ refl) c.in_ok-check_tile_and_mode.ensures
    (after _ (bad_lane a.lane ∷ []) _ (numbered _ refl) (rw (sym c.lane_outside.ensures) c.in_ok-refuse.ensures)
    (before _ _ (bad_pair (tile_of a.tile) a.tlut ∷ []) [] c.from_residual-in_err-refuse-2.ensures.1 (numbered _ refl)
    (rw (sym c.validate_tlut.ensures) c.in_err-refuse-2.ensures)))

-- where no test fails, none of all fails
none : (t : Tile) (mode lane : ℕ) (u v : Bool) → 0 ≡ first (sampling_tests t mode) → u ≡ lane_outside lane
    → 0 ≡ first ((3 if u) ∷ []) → v ≡ accepted mode t.fmt t.siz → 0 ≡ first ((5 if not v) ∷ []) → 0 ≡ first (pair_tests t mode lane)
none t mode lane u v e p f q g =
    after _ (sampling_tests t mode) _ (numbered _ refl) e
    (after _ (bad_lane lane ∷ []) _ (numbered _ refl) (rw (sym p) f) (rw (sym q) g))

pub returns-clause-refused : goal.returns-clause-refused
returns-clause-refused c =
    none _ _ _ _ _ c.in_ok-check_tile_and_mode.ensures c.lane_outside.ensures c.in_ok-refuse.ensures c.validate_tlut.ensures
    c.in_ok-refuse-2.ensures

pub invariant_of-result : goal.invariant_of-result
unfolding Passed
invariant_of-result c =
    let a = c.args in
    let t = tile_of a.tile in
    let e = sym (none t a.tlut a.lane _ _ c.in_ok-check_tile_and_mode.ensures c.lane_outside.ensures c.in_ok-refuse.ensures
    c.validate_tlut.ensures c.in_ok-refuse-2.ensures) in
    let p = allowed t a.tlut a.lane e in
    let passes = passed (pair_tests t a.tlut a.lane) (numbered _ refl) e in
    record { in_range = p.inside; tlut_bound = ltb-false 3 a.tlut passes.1.0; lane_bound = p.lane_le; pair_accepted = p.pair }
