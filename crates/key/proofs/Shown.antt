-- What is visible of a picture: its texels are the plain picture's, and pictures that are shown whole keep the keys that they had.
use mathlib.Core.Path.{◌≡◌, ap, sym, ◌∙◌}
use mathlib.Core.Bool.{true, false, ◌&&◌}
use mathlib.Core.List.{List}
use Prim.Native.Nat.{ℕ, ◌+◌, ◌*◌, ◌^◌, ◌<◌}
use native.Mathlib.Omega.{arith}
use lib.Dec.{ltb}
use lib.ListN.{length}
use Rattle.rules.specs.Base.{odd}
use Rattle.rules.specs.Tile.{Tile}
use Rattle.rules.specs.Texdec.{accepted}
use Rattle.rules.specs.Sampling.{repeats, visible, flag}
use Rattle.rules.specs.Reading.{Reading, given}
use Rattle.rules.specs.Picture.{column, row_start, texel, paletted, plain_row, plain, picture}
use Rattle.rules.specs.Key.{texel_at, key_of, key}
use Rattle.rules.proofs.Formats.{accepted-known, texel-four}
use Rattle.rules.proofs.Visible.{side-le, uncut, uncut_whole, lookup_whole}
use Rattle.rules.proofs.Texels.{texel_of}

module _ (t : Tile) (mode lane : ℕ) (bank : List ℕ) where
  -- texel (x, y) of what is visible is texel (x, y) of the plain picture
  pub visible-texel : (x y : ℕ) → accepted mode t.fmt t.siz ≡ true → x < (visible t).width → y < (visible t).height
      → texel_at (y * (visible t).width + x) (given (plain (visible t) mode lane) bank)
      ≡ texel_at (y * t.width + x) (given (plain t mode lane) bank)
  unfolding plain plain_row texel paletted
  visible-texel x y pair p q =
      let at : ℕ → ℕ → Reading = λ y x. texel t mode lane (odd y) (row_start t y + column t mode x) x in
      let four : (y x : ℕ) → length (given (at y x) bank) ≡ 4 =
      λ y x. texel-four t mode lane (odd y) (row_start t y + column t mode x) x bank (accepted-known mode t.fmt t.siz pair) in
      let wide : x < t.width = omega (arith, p, side-le t.cms t.masks t.width) in
      let high : y < t.height = omega (arith, q, side-le t.cmt t.maskt t.height) in
      texel_of (visible t).height (visible t).width at bank y x four q p
      ∙ sym (texel_of t.height t.width at bank y x four high wide)

  -- "so does every lookup picture"
  pub lookup_key : flag t mode ≡ true → key t mode lane bank ≡ key_of (picture t mode lane) bank
  unfolding key
  lookup_key e = ap (λ r. key_of r bank) (lookup_whole t mode lane e)

  -- "Other tiles keep their keys"
  pub uncut_key : (repeats t.cms t.masks && ltb (2 ^ t.masks) t.width) ≡ false
      → (repeats t.cmt t.maskt && ltb (2 ^ t.maskt) t.height) ≡ false → key t mode lane bank ≡ key_of (picture t mode lane) bank
  unfolding key
  uncut_key w h = ap (λ r. key_of r bank) (uncut_whole t mode lane (uncut t w h))
