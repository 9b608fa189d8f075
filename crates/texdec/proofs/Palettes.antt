-- The index by parts is the rule's index, and a number below 256.
use mathlib.Core.Path.{◌≡◌, refl}
use mathlib.Core.Bool.{Bool, true, false, cond}
use Prim.Native.Nat.{ℕ, ◌+◌, ◌*◌, ◌<◌, ◌≤◌}
use native.Mathlib.Omega.{arith}
use lib.Dec.{eqb}
use Rattle.rules.specs.Tile.{Tile}
use Rattle.rules.specs.Texdec.{nibble, index_part, part_index}
use Rattle.rules.specs.Picture.{index}
use Rattle.texdec.proofs.Nibbles.{nibble_small}

pub by_part : (t : Tile) (x v : ℕ) → part_index (index_part t.fmt t.siz) t.palette x v ≡ index t x v
by_part t x v = go (eqb t.siz 0) (eqb t.fmt 1)
  where
    go : (s f : Bool)
        → part_index (cond s (cond f 34 33) 32) t.palette x v ≡ cond s (t.palette * 16 + nibble (cond f 0 x) v) v
    go true true = refl
    go true false = refl
    go false f = refl

pub part_small : (part palette x v : ℕ) → palette ≤ 15 → v < 256 → part_index part palette x v < 256
part_small part palette x v p h = go (eqb part 32)
  where
    go : (s : Bool) → cond s v (palette * 16 + nibble (cond (eqb part 33) x 0) v) < 256
    go true = h
    go false = omega (arith, nibble_small (cond (eqb part 33) x 0) v h)
