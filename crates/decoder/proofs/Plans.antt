-- What holds of every plan: its rows are short and few; and what a plan is that was made of what was asked for.
use mathlib.Core.Path.{◌≡◌, ap, sym, ◌∙◌, refl}
use mathlib.Core.Bool.{Bool, true, false, cond, ◌&&◌}
use mathlib.Core.List.{List}
use Prim.Native.Nat.{ℕ, ◌*◌, ◌/◌, ◌≤◌}
use native.Mathlib.Nat.{mul_assoc, zero-mul}
use native.Mathlib.Omega.{arith}
use lib.Dec.{ltb}
use lib.ListN.{length}
use borrow.Author.Tests.{ltb-false}
use Rattle.rules.specs.Tile.{Tile, InRange, side_limit}
use Rattle.rules.specs.Picture.{reads_each}
use Rattle.rules.specs.Refusal.{first}
use Rattle.rules.proofs.Refused.{Passed, numbered, passed}
use Rattle.texdec.specs.declared.pair.Picture.{Picture}
use Rattle.rdp.specs.View.{tile_of}
use Rattle.rdp.specs.declared.tile.TileDescriptor.{TileDescriptor}
use Rattle.decoder.specs.Asked.{room_tests}
use Rattle.decoder.specs.Rows.{all_rows, rows_of}
use Rattle.decoder.specs.Sizes.{texels_by, width_by, rows_by, trail_step}
use Rattle.decoder.specs.declared.plan.Plan.{Plan}
use Rattle.decoder.proofs.Counted.{texels_by_lem}

narrow : (looked : Bool) (t : Tile) → InRange t → width_by looked t ≤ 4096
narrow true t i = omega arith
narrow false t i = i.width

short : (looked : Bool) (t : Tile) → InRange t → rows_by looked t ≤ side_limit
short true t i = omega arith
short false t i = i.height

module _ (p : Plan) where
  pub narrow_plan : p.width ≤ 4096
  narrow_plan = rw p.width_is (narrow p.lookup (tile_of p.picture.tile) p.picture.in_range)

  pub short_plan : p.rows ≤ side_limit
  short_plan = rw p.rows_is (short p.lookup (tile_of p.picture.tile) p.picture.in_range)

  -- where the buffers are not refused, they have room
  module _ (out seen : List ℕ)
      (h : 0 ≡ first (room_tests p.observe (texels_by p.lookup (tile_of p.picture.tile)) p.each out seen)) where
    pub picture_room : 4 * p.width * p.rows ≤ length out
    unfolding Passed
    picture_room =
        let t = tile_of p.picture.tile in
        let q = passed (room_tests p.observe (texels_by p.lookup t) p.each out seen) (numbered _ refl) (sym h) in
        rw (p.width_is, p.rows_is, mul_assoc 4 (width_by p.lookup t) (rows_by p.lookup t), texels_by_lem p.lookup t)
        (ltb-false (length out) (4 * texels_by p.lookup t) q.0)

    pub trail_room : p.step * p.width * p.rows ≤ length seen
    unfolding Passed
    trail_room =
        let t = tile_of p.picture.tile in
        let q = passed (room_tests p.observe (texels_by p.lookup t) p.each out seen) (numbered _ refl) (sym h) in
        rw (
          p.step_is,
          p.width_is,
          p.rows_is,
          mul_assoc (trail_step p.observe t p.picture.tlut) (width_by p.lookup t) (rows_by p.lookup t),
          texels_by_lem p.lookup t,
          ← p.each_is,
        ) (go p.observe q.1.0)
      where
        go : (o : Bool) → (o && ltb (length seen / 2) (p.each * texels_by p.lookup (tile_of p.picture.tile))) ≡ false
            → cond o (2 * p.each) 0 * texels_by p.lookup (tile_of p.picture.tile) ≤ length seen
        go true e =
            let n : ℕ = texels_by p.lookup (tile_of p.picture.tile) in
            rw (mul_assoc 2 p.each n) (omega (arith, ltb-false (length seen / 2) (p.each * n) e))
        go false e = rw zero-mul (omega arith)

-- a plan of a tile in a mode and on a lane, of its lookup or the plain picture, with a trail or without
pub record PlanOf (p : Plan) (tile : TileDescriptor) (mode lane : ℕ) (looked observe : Bool) : Type 0 where
  pub tile_is : p.picture.tile ≡ tile
  pub mode_is : p.picture.tlut ≡ mode
  pub lane_is : p.picture.lane ≡ lane
  pub lookup_is : p.lookup ≡ looked
  pub observe_is : p.observe ≡ observe

pub made : {p : Plan} {tile : TileDescriptor} {mode lane : ℕ} {looked observe : Bool} (q : Picture) → p.picture ≡ q
    → (q.tile ≡ tile) × (q.tlut ≡ mode) × (q.lane ≡ lane) → p.lookup ≡ looked → p.observe ≡ observe
    → PlanOf p tile mode lane looked observe
made q e k l o =
    record {
      tile_is = ap (λ (z : Picture). z.tile) e ∙ k.0;
      mode_is = ap (λ (z : Picture). z.tlut) e ∙ k.1;
      lane_is = ap (λ (z : Picture). z.lane) e ∙ k.2;
      lookup_is = l;
      observe_is = o;
    }

module _ {p : Plan} {tile : TileDescriptor} {mode lane : ℕ} {looked observe : Bool} (w : PlanOf p tile mode lane looked observe) where
  pub each_of : p.each ≡ reads_each (tile_of tile) mode
  each_of = p.each_is ∙ rw (w.tile_is, w.mode_is)

  pub texels_of : texels_by p.lookup (tile_of p.picture.tile) ≡ texels_by looked (tile_of tile)
  texels_of = rw (w.tile_is, w.lookup_is)

  pub room_of : (out seen : List ℕ) → first (room_tests p.observe (texels_by p.lookup (tile_of p.picture.tile)) p.each out seen)
      ≡ first (room_tests observe (texels_by looked (tile_of tile)) (reads_each (tile_of tile) mode) out seen)
  room_of out seen = rw (each_of, texels_of, w.observe_is)

  pub rows_made : all_rows p
      ≡ rows_of looked (tile_of tile) mode lane (width_by looked (tile_of tile)) (rows_by looked (tile_of tile))
  rows_made = rw (p.width_is, p.rows_is, w.tile_is, w.mode_is, w.lane_is, w.lookup_is)
