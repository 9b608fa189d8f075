-- `tile_sampling::sampling::sampling` answers the call's outcome: the first refusal, or flag and extent. Assumes nothing.
use mathlib.Core.Path.{◌≡◌, ap, sym, ◌∙◌}
use mathlib.Core.Bool.{Bool, cond}
use mathlib.Core.List.{[], ◌∷◌}
use Prim.Native.Nat.{ℕ, max}
use Rattle.rules.specs.Base.{one}
use Rattle.rules.specs.Tile.{Tile}
use Rattle.rules.specs.Refusal.{Outcome, first}
use Rattle.rules.specs.Sampling.{flag, extent_width, extent_height}
use Rattle.rules.specs.Calls.{sampling_tests, sampling_call}
use Rattle.rules.proofs.Refused.{done_is}
use Rattle.rdp.proofs.Refusals.{refused_call}
use Rattle.tile_sampling.proofs.sampling.sampling.Goals as goal

sampled : Bool → ℕ → ℕ → Outcome
sampled b w h = record { refusal = 0; numbers = one b ∷ w ∷ h ∷ []; buffers = [] }

-- where nothing is refused, the flag and the extent are the call's numbers
sampled-is : (t : Tile) (mode : ℕ) (b : Bool) (w h : ℕ) → first (sampling_tests t mode) ≡ 0 → b ≡ flag t mode
    → w ≡ cond b 4096 (max t.width 1) → h ≡ cond b 4 (max t.height 1) → sampled b w h ≡ sampling_call t mode
unfolding sampled sampling_call extent_width extent_height
sampled-is t mode b w h z e p q = rw (p, q, e) (done_is (sampling_tests t mode) _ _ _ z)

pub returns-in_err-check_tile_and_mode : goal.returns-in_err-check_tile_and_mode
unfolding sampling_call
returns-in_err-check_tile_and_mode c = refused_call _ _ _ _ _ _ _ c.from_residual.ensures.1 c.in_err-check_tile_and_mode.ensures

pub returns : goal.returns
unfolding sampled
returns c =
    let b = c.from_tile-found.result.lookup in
    let f = c.from_tile-found.ensures in
    let e = c.allocation_extent-extent.ensures in
    sampled-is _ _ _ _ _ (sym c.in_ok-check_tile_and_mode.ensures)
    f.lookup_value
    (e.0 ∙ ap (cond b 4096) f.width_value.0)
    (e.1 ∙ ap (cond b 4) f.width_value.1)
