-- Document 02's item 4: what is visible of a tile is no larger than the tile, so it is refused for nothing new; and every other
-- picture is visible whole.
use mathlib.Core.Path.{◌≡◌, refl}
use mathlib.Core.Bool.{Bool, true, false, cond, ◌&&◌, ◌||◌}
use Prim.Native.Nat.{ℕ, ◌^◌, ◌≤◌}
use native.Mathlib.Omega.{arith}
use lib.Dec.{ltb}
use borrow.Author.Tests.{ltb-true, ltb-false, le-ltb}
use Rattle.rules.specs.Tile.{Tile, sized, side_limit, load_fields_outside, tile_outside}
use Rattle.rules.specs.Sampling.{repeats, visible_side, visible, flag}
use Rattle.rules.specs.Picture.{lookup, picture, visible_picture}
use Rattle.rules.specs.Refusal.{first}
use Rattle.rules.specs.Calls.{pair_tests}
use Rattle.rules.proofs.Ranges.{neither}
use Rattle.rules.proofs.Refused.{Passed, numbered, passed}

pub side-le : (cm mask size : ℕ) → visible_side cm mask size ≤ size
side-le cm mask size = go (repeats cm mask) (ltb (2 ^ mask) size) refl
  where
    go : (r s : Bool) → ltb (2 ^ mask) size ≡ s → cond (r && s) (2 ^ mask) size ≤ size
    go true true e = let h = ltb-true (2 ^ mask) size e in omega arith
    go true false e = omega arith
    go false s e = omega arith

-- a tile with shorter sides is outside no range that it was inside of
shorter : (a : Bool) (w h v u : ℕ) → v ≤ w → u ≤ h → (a || ltb side_limit w || ltb side_limit h) ≡ false
    → (a || ltb side_limit v || ltb side_limit u) ≡ false
shorter a w h v u p q e =
    let tall = neither (a || ltb side_limit w) (ltb side_limit h) e in
    let wide = neither a (ltb side_limit w) tall.0 in
    let n : v ≤ side_limit = omega (arith, ltb-false side_limit w wide.1) in
    let m : u ≤ side_limit = omega (arith, ltb-false side_limit h tall.1) in
    rw (wide.0, le-ltb side_limit v n, le-ltb side_limit u m)

visible_inside : (t : Tile) → tile_outside t ≡ false → tile_outside (visible t) ≡ false
visible_inside t h =
    shorter (load_fields_outside t || ltb 15 t.palette || ltb 3 t.cms || ltb 3 t.cmt || ltb 15 t.masks || ltb 15 t.maskt)
    t.width t.height _ _
    (side-le t.cms t.masks t.width)
    (side-le t.cmt t.maskt t.height) h

pub visible_allowed : (t v : Tile) (mode lane : ℕ) → v ≡ visible t → first (pair_tests t mode lane) ≡ 0
    → first (pair_tests v mode lane) ≡ 0
unfolding Passed first
visible_allowed t v mode lane e h =
    let p = passed (pair_tests t mode lane) (numbered (pair_tests t mode lane) refl) h in
    rw (e, visible_inside t p.0, p.1.0, p.1.1.0, p.1.1.1.0)

-- an axis that is not cut, and a tile that is cut on none
uncut_side : (cm mask size : ℕ) → (repeats cm mask && ltb (2 ^ mask) size) ≡ false → visible_side cm mask size ≡ size
uncut_side cm mask size e = rw e

pub uncut : (t : Tile) → (repeats t.cms t.masks && ltb (2 ^ t.masks) t.width) ≡ false
    → (repeats t.cmt t.maskt && ltb (2 ^ t.maskt) t.height) ≡ false → visible t ≡ t
uncut t w h =
    λ i. sized t (uncut_side t.cms t.masks t.width w i) (uncut_side t.cmt t.maskt t.height h i)

-- "Other tiles keep their keys, and so does every lookup picture": what is visible of them is the whole picture
pub lookup_whole : (t : Tile) (mode lane : ℕ) → flag t mode ≡ true → visible_picture t mode lane ≡ picture t mode lane
unfolding visible_picture picture
lookup_whole t mode lane e = rw (visible_picture, picture, e)

pub uncut_whole : (t : Tile) (mode lane : ℕ) → visible t ≡ t → visible_picture t mode lane ≡ picture t mode lane
unfolding visible_picture picture
uncut_whole t mode lane e = go (flag t mode) refl
  where
    go : (u : Bool) → flag t mode ≡ u → visible_picture t mode lane ≡ picture t mode lane
    go true f = lookup_whole t mode lane f
    go false f = rw (visible_picture, picture, f, e)
