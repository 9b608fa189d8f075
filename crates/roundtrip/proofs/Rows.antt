-- What a tile load leaves at an address: the byte of the only row and word that go there.
use mathlib.Core.Path.{◌≡◌, refl, ap, sym, ◌∙◌}
use mathlib.Core.Bool.{true, false}
use mathlib.Core.List.{List}
use Prim.Native.Nat.{ℕ, ◌+◌, ◌*◌, ◌/◌, ◌%◌, ◌<◌, ◌≤◌}
use native.Mathlib.Omega.{arith}
use native.Mathlib.Decide.{dec_lt}
use lib.Dec.{eqb}
use lib.ListN.{get_or}
use Rattle.rules.specs.Load.{Store, LoadTile, image_tile, halfword, base, splits, word_columns, word_stores, tile_row, tile_stores}
use Rattle.rules.proofs.Parts.{part_ends}
use Rattle.tmem.proofs.Places.{Found, split_word, whole_word}
use Rattle.roundtrip.proofs.Last.{Sets, Keeps, keeps_table, sets_table}
use Rattle.roundtrip.proofs.Word.{first_word, whole_keeps, whole_sets, split_start, split_keeps, split_sets}

-- rows of a line's length do not meet
same_place : (l t y w v : ℕ) → w < l → v < l → l * t + w ≡ l * y + v → (t ≡ y) × (w ≡ v)
same_place l t y w v p q e = go (dec_lt t y) (dec_lt y t)
  where
    go : Dec (t < y) → Dec (y < t) → (t ≡ y) × (w ≡ v)
    go (yes h) d = absurd (omega (arith, part_ends l t y h))
    go (no h) (yes k) = absurd (omega (arith, part_ends l y t k))
    go (no h) (no k) = let s : t ≡ y = omega arith in (s, omega (arith, ap (λ n. l * n) s))

-- the stores of word w of a row
abbrev word : LoadTile → ℕ → ℕ → ℕ → ℕ → List Store
word t image stride row w = word_stores (image_tile image t) (w * word_columns image) row (λ k. row * stride + 8 * w + k)

-- A load whose words each go to one half: words a row that fit the line, and all lines inside the bank.
pub record WholeLoad (u : LoadTile) (image rows words : ℕ) : Type 0 where
  pub one_half : splits u ≡ false
  pub half_is : (w : ℕ) → halfword u (w * word_columns image) ≡ 4 * w % 2048
  pub words_in : words ≤ u.line
  pub lines_in : u.tmem_addr + rows * u.line ≤ 512

-- where byte q of row y is
abbrev pub spot_of : LoadTile → ℕ → ℕ → ℕ
spot_of u y q = 8 * (u.tmem_addr + u.line * y + q / 8) + (q % 8 + y % 2 * 4) % 8

module _ (src : List ℕ) (t : LoadTile) (image rows words stride : ℕ) (c : WholeLoad (image_tile image t) image rows words) where
  -- the word of the bank to which word w of a row goes
  abbrev goes : ℕ → ℕ → ℕ
  goes row w = t.tmem_addr + t.line * row + w

  pub word_within : (row w : ℕ) → row < rows → w < words → t.tmem_addr + t.line * row + w < 512
  word_within row w h k = omega (arith, part_ends t.line row rows h, c.words_in, c.lines_in)

  word_found : (row w : ℕ) → row < rows → w < words
      → Found (image_tile image t) (w * word_columns image) row (4 * w % 2048) (4 * goes row w) (row % 2 * 2)
  word_found row w h k =
      let p : goes row w < 512 = word_within row w h k in
      let z : t.line * row % 512 ≡ t.line * row = omega arith in
      record {
        half_is = sym (c.half_is w);
        first_is =
            sym (first_word (4 * base (image_tile image t) row + 4 * w % 2048) (goes row w) (rw z (omega arith)) (omega arith) p);
        odd_is = refl;
      }

  module _ (y q : ℕ) (y_in : y < rows) (q_in : q < 8 * words) where
    abbrev there : ℕ
    there = spot_of t y q

    abbrev what : ℕ
    what = get_or src (y * stride + q) 0

    spot_in : there < 4096
    spot_in = omega (arith, word_within y (q / 8) y_in (omega arith))

    -- only this byte goes to its address
    only : (row w : ℕ) → row < rows → w < words → (j : ℕ) → j < 8 → 8 * goes row w + j ≡ there
        → get_or src (row * stride + 8 * w + (j + row % 2 * 4) % 8) 0 ≡ what
    only row w h k j m e =
        let s : t.line * row + w ≡ t.line * y + q / 8 = omega arith in
        let r : j ≡ (q % 8 + y % 2 * 4) % 8 = omega arith in
        let n = same_place t.line row y w (q / 8) (omega (arith, c.words_in)) (omega (arith, c.words_in)) s in
        rw (n.0, n.1, r) (ap (λ n. get_or src n 0) (omega arith))

    word_keeps : (row w : ℕ) → row < rows → w < words → Keeps src there what (word t image stride row w)
    word_keeps row w h k =
        rw (← whole_word (word_found row w h k) (λ k. row * stride + 8 * w + k) c.one_half)
        (whole_keeps src there what (goes row w) row (λ k. row * stride + 8 * w + k) spot_in (word_within row w h k) (only row w h k))

    word_sets : (w : ℕ) → w ≡ q / 8 → w < words → Sets src there what (word t image stride y w)
    word_sets w e k =
        rw (← whole_word (word_found y w y_in k) (λ k. y * stride + 8 * w + k) c.one_half)
        (whole_sets src there what (goes y w) y (λ k. y * stride + 8 * w + k) spot_in (word_within y w y_in k) (only y w y_in k)
        ((q % 8 + y % 2 * 4) % 8) (omega arith) (omega arith))

    -- after the load the bank holds it
    pub whole_byte : Sets src (spot_of t y q) (get_or src (y * stride + q) 0) (tile_stores t image rows words stride)
    unfolding tile_stores tile_row
    whole_byte =
        let w_in : q / 8 < words = omega arith in
        sets_table rows _ y y_in
        (sets_table words _ (q / 8) w_in (word_sets (q / 8) refl w_in) (λ w k. word_keeps y w y_in k))
        (λ row h. keeps_table words _ (λ w k. word_keeps row w h k))

-- A load of (0,3): two words of source a word of each half.
pub record SplitLoad (u : LoadTile) (image rows words : ℕ) : Type 0 where
  pub both_halves : splits u ≡ true
  pub rgba : eqb u.fmt 1 ≡ false
  pub half_is : (w : ℕ) → halfword u (w * word_columns image) ≡ 2 * w % 2048
  pub words_in : words ≤ 2 * u.line
  pub lines_in : u.tmem_addr + rows * u.line ≤ 256

-- where byte e of half z of texel x of row y is
abbrev pub split_of : LoadTile → ℕ → ℕ → ℕ → ℕ → ℕ
split_of u y x e z = 8 * (u.tmem_addr + u.line * y + x / 4) + (2 * (x % 4) + e + y % 2 * 4) % 8 + 2048 * z

-- that texel's half word, and the byte in it
halves_meet : (x y e : ℕ) → e < 2 → (x / 2 + y) % 2 * 4 + (2 * (x % 2) + e) ≡ (2 * (x % 4) + e + y % 2 * 4) % 8
halves_meet x y e h = go (dec_lt (x % 4) 2) (dec_lt (y % 2) 1)
  where
    go : Dec (x % 4 < 2) → Dec (y % 2 < 1) → (x / 2 + y) % 2 * 4 + (2 * (x % 2) + e) ≡ (2 * (x % 4) + e + y % 2 * 4) % 8
    go (yes a) (yes b) = let c : x / 2 % 2 ≡ 0 = omega arith in omega arith
    go (yes a) (no b) = let c : x / 2 % 2 ≡ 0 = omega arith in omega arith
    go (no a) (yes b) = let c : x / 2 % 2 ≡ 1 = omega arith in omega arith
    go (no a) (no b) = let c : x / 2 % 2 ≡ 1 = omega arith in omega arith

-- an address by its word, its byte and its half
apart : (a b c d o z : ℕ) → a < 256 → b < 256 → c < 8 → d < 8 → o < 2 → z < 2 → 8 * a + c + 2048 * o ≡ 8 * b + d + 2048 * z
    → (a ≡ b) × ((c ≡ d) × (o ≡ z))
apart a b c d o z h k m n p q e = omega arith

-- the source's byte that goes there
same_byte : (row y w x i e : ℕ) → row ≡ y → w / 2 ≡ x / 4 → i < 4 → e < 2
    → (w + row) % 2 * 4 + i ≡ (2 * (x % 4) + e + y % 2 * 4) % 8
    → 8 * w + (i + i / 2 * 2) ≡ 4 * x + e
same_byte row y w x i e a b c d f = omega arith

same_source : (m w x i o z e : ℕ) → 8 * w + (i + i / 2 * 2) ≡ 4 * x + e → o ≡ z
    → m + 8 * w + (i + i / 2 * 2 + 2 * o) ≡ m + 4 * x + 2 * z + e
same_source m w x i o z e a b = omega arith

module _ (src : List ℕ) (t : LoadTile) (image rows words stride : ℕ) (c : SplitLoad (image_tile image t) image rows words) where
  abbrev half_goes : ℕ → ℕ → ℕ
  half_goes row w = t.tmem_addr + t.line * row + w / 2

  pub half_within : (row w : ℕ) → row < rows → w < words → t.tmem_addr + t.line * row + w / 2 < 256
  half_within row w h k = omega (arith, part_ends t.line row rows h, c.words_in, c.lines_in)

  half_found : (row w : ℕ) → row < rows → w < words
      → Found (image_tile image t) (w * word_columns image) row (2 * w) (4 * half_goes row w) (row % 2 * 2)
  half_found row w h k =
      let p : half_goes row w < 256 = half_within row w h k in
      let z : t.line * row % 512 ≡ t.line * row = omega arith in
      record {
        half_is = sym (c.half_is w ∙ omega arith);
        first_is =
            sym (first_word (4 * base (image_tile image t) row + 2 * w) (half_goes row w) (rw z (omega arith)) (omega arith)
            (omega arith));
        odd_is = refl;
      }

  module _ (y x e z : ℕ) (y_in : y < rows) (x_in : x / 2 < words) (e_in : e < 2) (z_in : z < 2) where
    abbrev there_half : ℕ
    there_half = split_of t y x e z

    abbrev what_half : ℕ
    what_half = get_or src (y * stride + 4 * x + 2 * z + e) 0

    row_within : t.tmem_addr + t.line * y + x / 4 < 256
    row_within = let p : half_goes y (x / 2) < 256 = half_within y (x / 2) y_in x_in in omega arith

    split_in : there_half < 4096
    split_in = let p : t.tmem_addr + t.line * y + x / 4 < 256 = row_within in omega arith

    split_only : (row w : ℕ) → row < rows → w < words → (i o : ℕ) → i < 4 → o < 2
        → 8 * half_goes row w + (w + row) % 2 * 4 + i + 2048 * o ≡ there_half
        → get_or src (row * stride + 8 * w + (i + i / 2 * 2 + 2 * o)) 0 ≡ what_half
    split_only row w h k i o m n q =
        let d = apart (half_goes row w) (t.tmem_addr + t.line * y + x / 4) ((w + row) % 2 * 4 + i)
        ((2 * (x % 4) + e + y % 2 * 4) % 8) o z (half_within row w h k) row_within (omega arith) (omega arith) n z_in (omega arith) in
        let s : t.line * row + w / 2 ≡ t.line * y + x / 4 = omega (arith, d.0) in
        let n = same_place t.line row y (w / 2) (x / 4) (omega (arith, c.words_in)) (omega (arith, c.words_in)) s in
        let b : 8 * w + (i + i / 2 * 2) ≡ 4 * x + e = same_byte row y w x i e n.0 n.1 m e_in d.1.0 in
        rw n.0 (ap (λ n. get_or src n 0) (same_source (y * stride) w x i o z e b d.1.1))

    half_keeps : (row w : ℕ) → row < rows → w < words → Keeps src there_half what_half (word t image stride row w)
    half_keeps row w h k =
        rw (← split_word (half_found row w h k) (λ k. row * stride + 8 * w + k) c.both_halves, split_start w row)
        (split_keeps src there_half what_half (image_tile image t) (half_goes row w) w row (λ k. row * stride + 8 * w + k) split_in
        (half_within row w h k) c.rgba (split_only row w h k))

    half_sets : Sets src there_half what_half (word t image stride y (x / 2))
    half_sets =
        rw (← split_word (half_found y (x / 2) y_in x_in) (λ k. y * stride + 8 * (x / 2) + k) c.both_halves, split_start (x / 2) y)
        (split_sets src there_half what_half (image_tile image t) (half_goes y (x / 2)) (x / 2) y (λ k. y * stride + 8 * (x / 2) + k)
        split_in
        (half_within y (x / 2) y_in x_in) c.rgba (split_only y (x / 2) y_in x_in)
        (2 * (x % 2) + e) z (omega arith) z_in (omega (arith, halves_meet x y e e_in)))

    pub split_byte : Sets src (split_of t y x e z) (get_or src (y * stride + 4 * x + 2 * z + e) 0) (tile_stores t image rows words stride)
    unfolding tile_stores tile_row
    split_byte =
        sets_table rows _ y y_in
        (sets_table words _ (x / 2) x_in half_sets (λ w k. half_keeps y w y_in k))
        (λ row h. keeps_table words _ (λ w k. half_keeps row w h k))
