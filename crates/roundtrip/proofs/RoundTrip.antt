-- "What goes in comes out": the plain picture of a tile that was loaded is the linear decoding of the source.
use mathlib.Core.Path.{◌≡◌, refl, ap, sym, ◌∙◌}
use mathlib.Core.Bool.{Bool, true, false, cond, not, ◌&&◌, ◌||◌, true≢false}
use mathlib.Core.List.{List, [], ◌∷◌}
use Prim.Native.Nat.{ℕ, zero, suc, ◌+◌, ◌*◌, ◌/◌, ◌%◌, ◌<◌, ◌≤◌}
use native.Mathlib.Nat.{mod-eq_of_lt}
use native.Mathlib.Omega.{arith}
use lib.Dec.{eqb, ltb}
use lib.ListN.{length, get_or}
use borrow.Author.Tests.{eqb-true, ltb-true, not-true}
use Rattle.rules.specs.Base.{odd}
use Rattle.rules.specs.Tile.{Tile}
use Rattle.rules.specs.Texdec.{Format, known, format_of, accepted, accepted_direct}
use Rattle.rules.specs.Sampling.{is_rgba32}
use Rattle.rules.specs.Reading.{given, trail}
use Rattle.rules.specs.Load.{LoadTile, load_tile, image_tile, stored, tile_stores}
use Rattle.rules.specs.Picture.{swap_odd, address, direct, texel, column, row_start, plain_row, plain}
use Rattle.rules.specs.Key.{texel_at}
use Rattle.rules.proofs.Ranges.{both}
use Rattle.rules.proofs.Formats.{of_direct, direct-known, direct-four, accepted-direct, texel-direct}
use Rattle.rules.specs.Linear.{linear_texel, linear_row, linear}
use Rattle.roundtrip.specs.Fits.{words_for, row_words, line_texels, Fits}
use Rattle.rules.proofs.Texels.{texel_of}
use Rattle.roundtrip.proofs.Word.{swapped}
use Rattle.roundtrip.proofs.Rows.{WholeLoad, SplitLoad, split_of, word_within, half_within, whole_byte, split_byte}
use Rattle.roundtrip.proofs.Texels.{given-same, reads_together, texel_reads, format_siz, siz_column, texel_whole, texel_split}

-- What an accepted pair but (2,3) has: it is known, its size is its format's, and (0,3) is the only one of size 3.
pub record PairFacts (fmt siz : ℕ) : Type 0 where
  pub knows : known (format_of fmt siz) ≡ true
  pub siz_is : siz ≡ format_siz (format_of fmt siz)
  pub rgba : eqb fmt 1 ≡ false
  pub sizes : cond (is_rgba32 fmt siz) true (ltb siz 3) ≡ true

or_left : (a b : Bool) → (a || b) ≡ true → b ≡ false → a ≡ true
or_left true b h e = refl
or_left false b h e = absurd (true≢false (sym h ∙ e))

pair_facts : (fmt siz : ℕ) → accepted_direct fmt siz ≡ true → (eqb fmt 2 && eqb siz 3) ≡ false → PairFacts fmt siz
unfolding format_of
pair_facts fmt siz a n =
    record {
      knows = direct-known fmt siz a;
      siz_is =
          eqb-true _ _
          (or_left _ _ (of_direct (λ fmt siz. eqb siz (format_siz (format_of fmt siz)) || (eqb fmt 2 && eqb siz 3)) refl fmt siz a) n);
      rgba = not-true _ (of_direct (λ fmt siz. not (eqb fmt 1)) refl fmt siz a);
      sizes = or_left _ _ (of_direct (λ fmt siz. cond (is_rgba32 fmt siz) true (ltb siz 3) || (eqb fmt 2 && eqb siz 3)) refl fmt siz a) n;
    }

is_rgba32_lem : (fmt siz : ℕ) → is_rgba32 fmt siz ≡ true → (fmt ≡ 0) × (siz ≡ 3)
is_rgba32_lem fmt siz h = go (eqb fmt 0) refl h
  where
    go : (b : Bool) → eqb fmt 0 ≡ b → (b && eqb siz 3) ≡ true → (fmt ≡ 0) × (siz ≡ 3)
    go true e h = (eqb-true fmt 0 e, eqb-true siz 3 h)
    go false e h = absurd (true≢false (sym h))

abbrev part : ℕ → ℕ → ℕ → ℕ → LoadTile
part fmt siz line tmem = record { fmt = fmt; siz = siz; line = line; tmem_addr = tmem }

whole_load : (fmt siz line tmem height width : ℕ) → siz < 3 → eqb fmt 1 ≡ false → is_rgba32 fmt siz ≡ false
    → width ≤ line_texels siz * line → tmem + height * line ≤ 512
    → WholeLoad (image_tile siz (part fmt siz line tmem)) siz height (words_for siz width)
whole_load fmt zero line tmem height width s r w h k =
    record { one_half = refl; half_is = λ w. omega arith; words_in = omega arith; lines_in = k }
whole_load fmt (suc zero) line tmem height width s r w h k =
    record { one_half = rw (r, w); half_is = λ w. rw r (omega arith); words_in = omega arith; lines_in = k }
whole_load fmt (suc (suc zero)) line tmem height width s r w h k =
    record { one_half = rw (r, w); half_is = λ w. rw r (omega arith); words_in = omega arith; lines_in = k }
whole_load fmt (suc (suc (suc n))) line tmem height width s r w h k = absurd (omega arith)

split_load : (line tmem height width : ℕ) → width ≤ 4 * line → tmem + height * line ≤ 256
    → SplitLoad (part 0 3 line tmem) 3 height (words_for 3 width)
split_load line tmem height width h k =
    record { both_halves = refl; rgba = refl; half_is = λ w. omega arith; words_in = omega arith; lines_in = k }

-- where the picture reads byte q of row y
read_at : (m tmem line y q r : ℕ) → y < 256 → r ≡ y % 256 * (8 * line) + q → 8 * (tmem + line * y + q / 8) + 8 ≤ m
    → (8 * tmem + swap_odd (odd y) r) % m ≡ 8 * (tmem + line * y + q / 8) + (q % 8 + y % 2 * 4) % 8
read_at m tmem line y q r h e k =
    let z : y % 256 ≡ y = omega arith in
    let e' : r ≡ y * (8 * line) + q = rw z at e in
    let a : r / 8 ≡ line * y + q / 8 = omega arith in
    let b : r % 8 ≡ q % 8 = omega arith in
    let s : 8 * tmem + swap_odd (odd y) r ≡ 8 * (tmem + line * y + q / 8) + (q % 8 + y % 2 * 4) % 8 = rw (swapped y r, a, b) (omega arith)
    in
    rw s (mod-eq_of_lt (omega arith))

-- byte e of a half of texel x of row y
read_half : (b x y e a : ℕ) → e < 2 → a ≡ 8 * (b + (2 * x + e) / 8) + ((2 * x + e) % 8 + y % 2 * 4) % 8
    → a ≡ 8 * (b + x / 4) + (2 * (x % 4) + e + y % 2 * 4) % 8
read_half b x y e a h k =
    let w : (2 * x + e) / 8 ≡ x / 4 = omega arith in
    let r : (2 * x + e) % 8 ≡ 2 * (x % 4) + e = omega arith in
    k ∙ rw (w, r)

pub facts : (t : Tile) → Fits t → PairFacts t.fmt t.siz
facts t fits =
    let p = both (accepted 0 t.fmt t.siz) _ fits.pair in
    pair_facts t.fmt t.siz (accepted-direct 0 t.fmt t.siz (omega arith) p.0) (not-true _ p.1)

module _ (t : Tile) (mode lane stride : ℕ) (src bank : List ℕ) (fits : Fits t) (direct_mode : mode < 2)
    (whole_bank : length bank ≡ 4096) where
  abbrev pub after : List ℕ
  after = stored src (tile_stores (load_tile t) t.siz t.height (row_words t) stride) bank

  column_is : (x : ℕ) → column t mode x ≡ siz_column t.siz x
  column_is x = rw (facts t fits).rgba

  module _ (y x : ℕ) (y_in : y < t.height) (x_in : x < t.width) where
    abbrev f : Format
    f = format_of t.fmt t.siz

    whole_trip : is_rgba32 t.fmt t.siz ≡ false
        → given (direct f (8 * t.tmem_addr) t.palette (odd y) (row_start t y + siz_column t.siz x) x) after
        ≡ given (linear_texel f t.palette (y * stride) x) src
    whole_trip n =
        ap (λ s. given (direct f (8 * t.tmem_addr) t.palette (odd y) (row_start t y + siz_column s x) x) after) (facts t fits).siz_is
        ∙ texel_whole after src (8 * t.tmem_addr) (row_start t y) (y * stride) (odd y) t.palette t.width x x_in (8 * row_words t)
        bytes f (facts t fits).knows (rw (facts t fits).siz_is at small) (ap (λ s. 8 * words_for s t.width) (facts t fits).siz_is)
      where
        small : t.siz < 3
        small = ltb-true t.siz 3 (rw n at (facts t fits).sizes)

        c : WholeLoad (image_tile t.siz (load_tile t)) t.siz t.height (row_words t)
        c =
            whole_load t.fmt t.siz t.line t.tmem_addr t.height t.width small (facts t fits).rgba n
            (omega (arith, fits.row_fits)) (omega (arith, rw n at fits.lines_inside))

        bytes : (r s q : ℕ) → q < 8 * row_words t → r ≡ row_start t y + q → s ≡ y * stride + q
            → get_or after (address 4096 (8 * t.tmem_addr) (odd y) r) 0 ≡ get_or src s 0
        bytes r s q q_in e e' =
            let in_bank : t.tmem_addr + t.line * y + q / 8 < 512 =
            word_within src (load_tile t) t.siz t.height (row_words t) stride c y (q / 8) y_in (omega arith) in
            rw (read_at 4096 t.tmem_addr t.line y q r (omega (arith, fits.height_in)) e (omega arith), e')
            ((whole_byte src (load_tile t) t.siz t.height (row_words t) stride c y q y_in q_in).holds bank whole_bank)

    abbrev u : LoadTile
    u = part 0 3 t.line t.tmem_addr

    split_trip : is_rgba32 t.fmt t.siz ≡ true
        → given (direct f (8 * t.tmem_addr) t.palette (odd y) (row_start t y + siz_column t.siz x) x) after
        ≡ given (linear_texel f t.palette (y * stride) x) src
    unfolding format_of
    split_trip n =
        rw (e.0, e.1)
        (texel_split _ src (8 * t.tmem_addr) (row_start t y) (y * stride) (odd y) t.palette t.width x x_in bytes)
      where
        e : (t.fmt ≡ 0) × (t.siz ≡ 3)
        e = is_rgba32_lem t.fmt t.siz n

        c : SplitLoad u 3 t.height (words_for 3 t.width)
        c = split_load t.line t.tmem_addr t.height t.width (rw e.1 at fits.row_fits) (rw n at fits.lines_inside)

        bytes : (a r s e z : ℕ) → e < 2 → z < 2 → r ≡ row_start t y + 2 * x + e
            → a ≡ address 2048 (8 * t.tmem_addr) (odd y) r + 2048 * z → s ≡ y * stride + 4 * x + 2 * z + e
            → get_or (stored src (tile_stores u 3 t.height (words_for 3 t.width) stride) bank) a 0 ≡ get_or src s 0
        bytes a r s e z h k er ea es =
            let x_half : x / 2 < words_for 3 t.width = omega arith in
            let in_half : t.tmem_addr + t.line * y + x / 2 / 2 < 256 =
            half_within src u 3 t.height (words_for 3 t.width) stride c y (x / 2) y_in x_half in
            let read = read_at 2048 t.tmem_addr t.line y (2 * x + e) r (omega (arith, fits.height_in)) (omega arith) (omega arith) in
            let at : a ≡ split_of u y x e z = ea ∙ ap (λ n. n + 2048 * z) (read_half (t.tmem_addr + t.line * y) x y e _ h read) in
            rw (at, es) ((split_byte src u 3 t.height (words_for 3 t.width) stride c y x e z y_in x_half h k).holds bank whole_bank)

    -- texel x of row y
    trip : given (texel t mode lane (odd y) (row_start t y + column t mode x) x) after
        ≡ given (linear_texel (format_of t.fmt t.siz) t.palette (y * stride) x) src
    trip =
        ap (λ r. given r after) (texel-direct t mode lane (odd y) (row_start t y + column t mode x) x direct_mode)
        ∙ rw (column_is x) (go (is_rgba32 t.fmt t.siz) refl)
      where
        go : (b : Bool) → is_rgba32 t.fmt t.siz ≡ b
            → given (direct f (8 * t.tmem_addr) t.palette (odd y) (row_start t y + siz_column t.siz x) x) after
            ≡ given (linear_texel f t.palette (y * stride) x) src
        go true n = split_trip n
        go false n = whole_trip n

  -- the whole picture
  pub round_trip : given (plain t mode lane) after ≡ given (linear t stride) src
  unfolding plain plain_row linear linear_row
  round_trip =
      given-same t.height _ _ after src (λ y y_in.
      given-same t.width _ _ after src (λ x x_in. trip y x y_in x_in))

  -- it makes as many reads
  pub reads_same : length (trail (plain t mode lane) after) ≡ length (trail (linear t stride) src)
  unfolding plain plain_row linear linear_row
  reads_same =
      reads_together t.height _ _ after src (λ y.
      reads_together t.width _ _ after src (λ x.
      ap (λ r. length (trail r after)) (texel-direct t mode lane (odd y) (row_start t y + column t mode x) x direct_mode)
      ∙ texel_reads after src (8 * t.tmem_addr) t.palette (odd y) (row_start t y + column t mode x) (y * stride) x
      (format_of t.fmt t.siz)))

  -- texel (x, y) of it
  pub texel_trip : (y x : ℕ) → y < t.height → x < t.width
      → texel_at (y * t.width + x) (given (plain t mode lane) after)
      ≡ given (linear_texel (format_of t.fmt t.siz) t.palette (y * stride) x) src
  unfolding plain plain_row
  texel_trip y x y_in x_in =
      texel_of t.height t.width (λ y x. texel t mode lane (odd y) (row_start t y + column t mode x) x) after y x four y_in x_in
      ∙ trip y x y_in x_in
    where
      four : (y x : ℕ) → length (given (texel t mode lane (odd y) (row_start t y + column t mode x) x) after) ≡ 4
      four y x =
          ap (λ r. length (given r after)) (texel-direct t mode lane (odd y) (row_start t y + column t mode x) x direct_mode)
          ∙ direct-four (format_of t.fmt t.siz) (8 * t.tmem_addr) t.palette (odd y) (row_start t y + column t mode x) x after
          (facts t fits).knows
