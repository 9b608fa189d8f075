-- Every address that a picture reads is below 4,096, for a tile and a lane in range and a bank of bytes.
use mathlib.Core.Path.{◌≡◌, refl}
use mathlib.Core.Bool.{Bool, true, false}
use mathlib.Core.List.{List, [], ◌∷◌, ◌++◌}
use Prim.Native.Nat.{ℕ, zero, suc, ◌*◌, ◌<◌, ◌≤◌}
use native.Mathlib.Omega.{arith}
use lib.ListN.{get_or}
use Rattle.rules.specs.Key.{Bytes}
use Rattle.rules.specs.Tile.{Tile}
use Rattle.rules.specs.Texdec.{Format, rgba16, rgba32, ci4, ci8, ci16, ia4, ia8, ia16, i4, i8, unknown, tlut, index_part}
use Rattle.rules.specs.Reading.{Reading, trail, up_to}
use Rattle.rules.specs.Sampling.{flag, visible}
use Rattle.rules.specs.Picture.{address, direct, paletted, index, texel, plain_row, plain, lookup_row, lookup, visible_picture}
use Rattle.texdec.proofs.Palettes.{by_part, part_small}
use Rattle.rules.proofs.Maps.{Below}
use Rattle.rules.proofs.Readings.{trail_then}

pub below_append : (n : ℕ) (l m : List ℕ) → Below n l → Below n m → Below n (l ++ m)
unfolding Below
below_append n [] m p q = q
below_append n (a ∷ l) m p q = (p.0, below_append n l m p.1 q)

up_below : (n : ℕ) (f : ℕ → Reading) (b : List ℕ) → ((i : ℕ) → Below 4096 (trail (f i) b)) → Below 4096 (trail (up_to n f) b)
unfolding up_to trail Below
up_below zero f b h = tt
up_below (suc n) f b h = rw trail_then (below_append 4096 (trail (up_to n f) b) (trail (f n) b) (up_below n f b h) (h n))

direct_below : (f : Format) (base palette : ℕ) (swap : Bool) (rel x : ℕ) (b : List ℕ)
    → Below 4096 (trail (direct f base palette swap rel x) b)
unfolding direct trail Below
direct_below rgba16 base palette swap rel x b = omega arith
direct_below rgba32 base palette swap rel x b = omega arith
direct_below ci4 base palette swap rel x b = omega arith
direct_below ci8 base palette swap rel x b = omega arith
direct_below ci16 base palette swap rel x b = omega arith
direct_below ia4 base palette swap rel x b = omega arith
direct_below ia8 base palette swap rel x b = omega arith
direct_below ia16 base palette swap rel x b = omega arith
direct_below i4 base palette swap rel x b = omega arith
direct_below i8 base palette swap rel x b = omega arith
direct_below unknown base palette swap rel x b = tt

-- an index is below 256
pub index-byte : (t : Tile) (x v : ℕ) → t.palette ≤ 15 → v < 256 → index t x v < 256
index-byte t x v p h = rw (← by_part t x v) (part_small (index_part t.fmt t.siz) t.palette x v p h)

paletted_below : (t : Tile) (mode lane : ℕ) (swap : Bool) (rel x : ℕ) (b : List ℕ) → t.palette ≤ 15 → lane ≤ 3 → Bytes b
    → Below 4096 (trail (paletted t mode lane swap rel x) b)
unfolding paletted trail Below Bytes
paletted_below t mode lane swap rel x b p l s =
    let at : ℕ = address 2048 (8 * t.tmem_addr) swap rel in
    let h : index t x (get_or b at 0) < 256 = index-byte t x (get_or b at 0) p (s at) in
    omega arith

pub texel_below : (t : Tile) (mode lane : ℕ) (swap : Bool) (rel x : ℕ) (b : List ℕ) → t.palette ≤ 15 → lane ≤ 3 → Bytes b
    → Below 4096 (trail (texel t mode lane swap rel x) b)
unfolding texel
texel_below t mode lane swap rel x b p l s = go (tlut mode) refl
  where
    go : (u : Bool) → tlut mode ≡ u → Below 4096 (trail (texel t mode lane swap rel x) b)
    go true e = rw (texel, e) (paletted_below t mode lane swap rel x b p l s)
    go false e = rw (texel, e) (direct_below _ _ _ _ _ _ b)

pub picture_below : (t : Tile) (mode lane : ℕ) (b : List ℕ) → t.palette ≤ 15 → lane ≤ 3 → Bytes b
    → Below 4096 (trail (visible_picture t mode lane) b)
unfolding visible_picture plain plain_row lookup lookup_row
picture_below t mode lane b p l s = go (flag t mode) refl
  where
    go : (u : Bool) → flag t mode ≡ u → Below 4096 (trail (visible_picture t mode lane) b)
    go true e = rw (visible_picture, e) (up_below 4 _ b (λ r. up_below 4096 _ b (λ rel. texel_below t mode lane _ _ _ b p l s)))
    go false e =
        rw (visible_picture, e)
        (up_below (visible t).height _ b (λ y. up_below (visible t).width _ b (λ x. texel_below (visible t) mode lane _ _ _ b p l s)))
