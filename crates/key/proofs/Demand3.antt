-- Demand 3 as theorems about the definitions that the contracts cite, for every tile, mode and lane and banks of 4,096
-- bytes; "over this visible picture". Where a sentence needs the pair to be accepted, or the numbers to be in range, the theorem says so.
use mathlib.Core.Path.{◌≡◌, refl, ap, sym, ◌∙◌}
use mathlib.Core.Bool.{Bool, true, false, cond}
use mathlib.Core.List.{List}
use mathlib.Core.Logic.{◌↔◌}
use Prim.Native.Nat.{ℕ, ◌+◌, ◌*◌, ◌/◌, ◌%◌, ◌<◌, ◌≤◌}
use native.Mathlib.Omega.{arith}
use native.Mathlib.Nat.{suc-mul, mul_comm, mul-le-mul_right}
use lib.ListN.{length, get_or}
use Rattle.rules.specs.Base.{odd, mem, distinct}
use Rattle.rules.specs.Tile.{Tile}
use Rattle.rules.specs.Texdec.{accepted, format_of, known}
use Rattle.rules.specs.Sampling.{flag, visible, visible_texels}
use Rattle.rules.specs.Reading.{Reading, given, trail, up_to, Agree}
use Rattle.rules.specs.Picture.{texel, column, row_start, plain_row, plain, lookup_row, lookup, visible_picture}
use Rattle.rules.specs.Key.{key, kept_count, flipped, texel_at, Bytes}
use Rattle.rules.proofs.Keys.{length-key, key-byte, key-given, key-trail, key-key, agree→key, key→agree}
use Rattle.rules.proofs.Maps.{Below}
use Rattle.rules.proofs.Formats.{accepted-direct, accepted-known, direct-known, texel-direct, texel-four}
use Rattle.rules.proofs.Texels.{texel_of}
use Rattle.key.proofs.Lift.{found}
use Rattle.key.proofs.Flips.{texel_flips}
use Rattle.key.proofs.Inside.{picture_below}

-- 1. "The key is the bank with every byte that its picture reads kept and all others zero." It has 4,096 bytes.
pub key_keeps : (t : Tile) (mode lane : ℕ) (bank : List ℕ) → length bank ≡ 4096
    → (length (key t mode lane bank) ≡ 4096)
    × ((a : ℕ) → get_or (key t mode lane bank) a 0 ≡ cond (mem a (trail (visible_picture t mode lane) bank)) (get_or bank a 0) 0)
unfolding key
key_keeps t mode lane bank n = (length-key (visible_picture t mode lane) bank, λ a. key-byte (visible_picture t mode lane) bank a n)

-- The kept count is the number of distinct addresses read: none of them lies past the 4,096 that it counts.
pub count_keeps : (t : Tile) (mode lane : ℕ) (bank : List ℕ) → t.palette ≤ 15 → lane ≤ 3 → Bytes bank
    → (kept_count t mode lane bank ≡ distinct 4096 (trail (visible_picture t mode lane) bank))
    × Below 4096 (trail (visible_picture t mode lane) bank)
unfolding kept_count
count_keeps t mode lane bank p l s = (refl, picture_below t mode lane bank p l s)

-- 2. "The key gives the same picture by the same reads": the bytes, the addresses in order, and so the counts.
pub key-same-picture : (t : Tile) (mode lane : ℕ) (bank : List ℕ) → length bank ≡ 4096
    → (given (visible_picture t mode lane) (key t mode lane bank) ≡ given (visible_picture t mode lane) bank)
    × (trail (visible_picture t mode lane) (key t mode lane bank) ≡ trail (visible_picture t mode lane) bank)
    × (kept_count t mode lane (key t mode lane bank) ≡ kept_count t mode lane bank)
unfolding key kept_count
key-same-picture t mode lane bank n =
    let same = key-trail (visible_picture t mode lane) bank n in
    (key-given (visible_picture t mode lane) bank n, same, ap (distinct 4096) same)

-- 3. "and is its own key."
pub key_own_key : (t : Tile) (mode lane : ℕ) (bank : List ℕ) → length bank ≡ 4096
    → key t mode lane (key t mode lane bank) ≡ key t mode lane bank
unfolding key
key_own_key t mode lane bank n = key-key (visible_picture t mode lane) bank n

-- 4. "Two banks have equal keys exactly when they agree at every address that the first one's picture reads."
pub equal_keys : (t : Tile) (mode lane : ℕ) (b c : List ℕ) → length b ≡ 4096 → length c ≡ 4096
    → (key t mode lane b ≡ key t mode lane c) ↔ Agree (trail (visible_picture t mode lane) b) b c
unfolding key
equal_keys t mode lane b c n m = (key→agree (visible_picture t mode lane) b c n m, agree→key (visible_picture t mode lane) b c)

-- The pack engineer's promise: under one tile, mode and lane, equal keys give equal pictures, texel by texel.
pub equal_keys_equal_pictures : (t : Tile) (mode lane : ℕ) (b c : List ℕ) → length b ≡ 4096 → length c ≡ 4096
    → key t mode lane b ≡ key t mode lane c
    → (given (visible_picture t mode lane) b ≡ given (visible_picture t mode lane) c)
    × ((i : ℕ) → texel_at i (given (visible_picture t mode lane) b) ≡ texel_at i (given (visible_picture t mode lane) c))
equal_keys_equal_pictures t mode lane b c n m e =
    let shown = visible_picture t mode lane in
    let same = sym (key-same-picture t mode lane b n).0 ∙ ap (given shown) e ∙ (key-same-picture t mode lane c m).0 in
    (same, λ i. ap (texel_at i) same)

-- a texel of a picture that differs between two banks, by its index in the picture
pub record Changed (count : ℕ) (r : Reading) (b c : List ℕ) : Type 0 where
  pub texel : ℕ
  pub inside : texel < count
  pub differs : texel_at texel (given r b) ≡ texel_at texel (given r c) → ⊥

-- n rows of w texels, each of four bytes, in which each texel that reads a changes
grid_changes : (n w : ℕ) (f : ℕ → ℕ → Reading) (b c : List ℕ) (a : ℕ)
    → ((b : List ℕ) (y x : ℕ) → length (given (f y x) b) ≡ 4)
    → ((y x : ℕ) → mem a (trail (f y x) b) ≡ true → given (f y x) c ≡ given (f y x) b → ⊥)
    → mem a (trail (up_to n (λ y. up_to w (f y))) b) ≡ true
    → Changed (w * n) (up_to n (λ y. up_to w (f y))) c b
grid_changes n w f b c a four change m =
    let row = found (λ y. up_to w (f y)) b n a m in
    let col = found (f row.at) b w a row.reads in
    let y : ℕ = row.at in
    let x : ℕ = col.at in
    let p : y < n = row.inside in
    let q : x < w = col.inside in
    let r = mul-le-mul_right w p in
    record {
      texel = y * w + x;
      inside = omega (arith, suc-mul y w, mul_comm w n);
      differs = λ e. change y x col.reads (sym (texel_of n w f c y x (four c) p q) ∙ e ∙ texel_of n w f b y x (four b) p q);
    }

module _ (t : Tile) (mode lane : ℕ) (direct_mode : mode < 2) (pair : accepted mode t.fmt t.siz ≡ true) where
  known_pair : known (format_of t.fmt t.siz) ≡ true
  known_pair = direct-known t.fmt t.siz (accepted-direct mode t.fmt t.siz direct_mode pair)

  four_bytes : (swap : Bool) (rel x : ℕ) (b : List ℕ) → length (given (texel t mode lane swap rel x) b) ≡ 4
  four_bytes swap rel x b = texel-four t mode lane swap rel x b (accepted-known mode t.fmt t.siz pair)

  changes : (bank : List ℕ) (a : ℕ) → length bank ≡ 4096 → Bytes bank → (swap : Bool) (rel x : ℕ)
      → mem a (trail (texel t mode lane swap rel x) bank) ≡ true
      → given (texel t mode lane swap rel x) (flipped a bank) ≡ given (texel t mode lane swap rel x) bank → ⊥
  changes bank a n s swap rel x =
      rw (texel-direct t mode lane swap rel x direct_mode) (texel_flips bank a n s (format_of t.fmt t.siz) _ _ swap rel x known_pair)

-- 5. "In modes 0 and 1, flipping all eight bits of any one kept byte changes some texel."
pub flip_changes : (t : Tile) (mode lane : ℕ) (bank : List ℕ) (a : ℕ) → mode < 2 → accepted mode t.fmt t.siz ≡ true
    → length bank ≡ 4096 → Bytes bank → mem a (trail (visible_picture t mode lane) bank) ≡ true
    → Changed (visible_texels t mode) (visible_picture t mode lane) (flipped a bank) bank
unfolding visible_picture visible_texels lookup lookup_row plain plain_row
flip_changes t mode lane bank a h p n s = go (flag t mode) refl
  where
    go : (u : Bool) → flag t mode ≡ u → mem a (trail (visible_picture t mode lane) bank) ≡ true
        → Changed (visible_texels t mode) (visible_picture t mode lane) (flipped a bank) bank
    go true e =
        rw (visible_picture, visible_texels, e)
        (grid_changes 4 4096 (λ r rel. texel t mode lane (odd (r / 2)) rel (r % 2)) bank (flipped a bank) a
        (λ b r rel. four_bytes t mode lane h p _ _ _ b)
        (λ r rel. changes t mode lane h p bank a n s _ _ _))
    go false e =
        rw (visible_picture, visible_texels, e)
        (grid_changes (visible t).height (visible t).width (λ y x. texel (visible t) mode lane (odd y) (row_start t y + column t mode x) x)
        bank (flipped a bank) a
        (λ b y x. four_bytes (visible t) mode lane h p _ _ _ b)
        (λ y x. changes (visible t) mode lane h p bank a n s _ _ _))
