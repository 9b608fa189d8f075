-- "What goes in comes out", by the calls: a tile load and then a plain picture leave what the linear decoding of the source leaves.
use mathlib.Core.Path.{◌≡◌, refl, ap, sym, ◌∙◌}
use mathlib.Core.Bool.{Bool, true, false, cond, ◌&&◌, true≢false}
use mathlib.Core.List.{List, [], ◌∷◌}
use Prim.Native.Nat.{ℕ, zero, suc, ◌+◌, ◌*◌, ◌<◌, ◌≤◌}
use native.Mathlib.Nat.{mul-le-mul_right}
use native.Mathlib.Omega.{arith}
use lib.Dec.{eqb, ltb}
use lib.ListN.{length}
use borrow.Author.Tests.{eq-eqb, le-ltb, lt-leb}
use Rattle.rules.specs.Base.{over}
use Rattle.rules.specs.Tile.{Tile, InRange, side_limit, written_size, reasons_size, load_tile_from, linear_tile_from}
use Rattle.rules.specs.Texdec.{accepted}
use Rattle.rules.specs.Sampling.{is_rgba32}
use Rattle.rules.specs.Reading.{given, trail}
use Rattle.rules.specs.Load.{Store, Reason, reason_outside, load_tile, stored, following, made_up, tile_stores}
use Rattle.rules.specs.Picture.{plain}
use Rattle.rules.specs.Linear.{linear, linear_row}
use Rattle.rules.specs.Refusal.{first, call_or, call}
use Rattle.rules.specs.Calls.{load_tests, tile_load_outside, tile_call, left_by, plain_texels, picture_tests, picture_call}
use Rattle.rules.specs.Calls.{sample_tile_call}
use Rattle.rules.specs.Calls.{linear_tests, linear_call}
use Rattle.rules.proofs.Formats.{accepted-direct}
use Rattle.rules.proofs.Loads.{length-stored}
use Rattle.rules.proofs.Ranges.{both}
use Rattle.rules.proofs.Refused.{done_is, done_or_is}
use Rattle.roundtrip.specs.Fits.{words_for, row_words, line_texels, lines_in, Fits}
use Rattle.roundtrip.proofs.RoundTrip.{facts, round_trip, reads_same}

-- The load takes at most 512 words a row. Where there is a row they are no more: only those of (0,3) can be more than the line's.
few : (fmt siz line tmem height width : ℕ) → cond (is_rgba32 fmt siz) true (ltb siz 3) ≡ true → siz ≤ 3 → line ≤ 511 → 0 < height
    → width ≤ line_texels siz * line → tmem + height * line ≤ lines_in fmt siz → words_for siz width ≤ 512
few fmt zero line tmem height width k s l h w i = omega arith
few fmt (suc zero) line tmem height width k s l h w i = omega arith
few fmt (suc (suc zero)) line tmem height width k s l h w i = omega arith
few fmt (suc (suc (suc zero))) line tmem height width k s l h w i = go (eqb fmt 0) k i
  where
    one : 1 * line ≤ height * line
    one = mul-le-mul_right line h

    go : (b : Bool) → cond (b && true) true false ≡ true → tmem + height * line ≤ cond (b && true) 256 512 → words_for 3 width ≤ 512
    go true k' i' = omega (arith, one)
    go false k' i' = absurd (true≢false (sym k'))
few fmt (suc (suc (suc (suc n)))) line tmem height width k s l h w i = absurd (omega arith)

pub words_few : (t : Tile) → Fits t → t.siz ≤ 3 → t.line ≤ 511 → 0 < t.height → row_words t ≤ 512
words_few t fits s l h =
    few t.fmt t.siz t.line t.tmem_addr t.height t.width (facts t fits).sizes s l h fits.row_fits fits.lines_inside

-- what the calls ask of their numbers and buffers
pub record Taken (t : Tile) (mode lane stride : ℕ) (why : Reason) (last : ℕ) (src bank map reasons out : List ℕ) : Type 0 where
  pub fields : InRange t
  pub direct_mode : mode < 2
  pub lane_in : lane ≤ 3
  pub stride_in : stride ≤ 65535
  pub words_in : row_words t ≤ 512
  pub reason_in : reason_outside why ≡ false
  pub number-left : last ≤ 65534
  pub source_in : length src ≤ 65536
  pub whole_bank : length bank ≡ 4096
  pub whole_map : length map ≡ written_size
  pub whole_reasons : length reasons ≡ reasons_size
  pub room : 4 * (t.width * t.height) ≤ length out

module _ (t : Tile) (mode lane stride : ℕ) (why : Reason) (last : ℕ) (src bank map reasons out : List ℕ) (fits : Fits t)
    (c : Taken t mode lane stride why last src bank map reasons out) where
  -- the load's stores, and the bank that it leaves
  abbrev pub stores : List Store
  stores = tile_stores (load_tile t) t.siz t.height (row_words t) stride

  abbrev pub left : List ℕ
  left = stored src stores bank

  load_taken : first (load_tests bank map reasons src t t.siz (tile_load_outside t.height (row_words t) stride) why last) ≡ 0
  unfolding first
  load_taken =
      let tall : t.height ≤ 1024 = omega (arith, fits.height_in) in
      rw (
        eq-eqb (length bank) 4096 c.whole_bank,
        eq-eqb (length map) written_size c.whole_map,
        eq-eqb (length reasons) reasons_size c.whole_reasons,
        le-ltb 7 t.fmt c.fields.fmt,
        le-ltb 3 t.siz c.fields.siz,
        le-ltb 511 t.line c.fields.line,
        le-ltb 511 t.tmem_addr c.fields.tmem_addr,
        le-ltb 65536 (length src) c.source_in,
        le-ltb 1024 t.height tall,
        le-ltb 512 (row_words t) c.words_in,
        le-ltb 65535 stride c.stride_in,
        c.reason_in,
        le-ltb 65534 last c.number-left,
      )

  pair_taken : accepted mode t.fmt t.siz ≡ true
  unfolding accepted
  pair_taken =
      rw (lt-leb 2 mode c.direct_mode)
      (accepted-direct 0 t.fmt t.siz (omega arith) (both (accepted 0 t.fmt t.siz) _ fits.pair).0)

  picture-taken : first (picture_tests left t mode lane (plain_texels t) out) ≡ 0
  unfolding first
  picture-taken =
      rw (
        eq-eqb (length left) 4096 (length-stored src stores bank ∙ c.whole_bank),
        le-ltb 7 t.fmt c.fields.fmt,
        le-ltb 3 t.siz c.fields.siz,
        le-ltb 511 t.line c.fields.line,
        le-ltb 511 t.tmem_addr c.fields.tmem_addr,
        le-ltb 15 t.palette c.fields.palette,
        le-ltb 3 t.cms c.fields.cms,
        le-ltb 3 t.cmt c.fields.cmt,
        le-ltb 15 t.masks c.fields.masks,
        le-ltb 15 t.maskt c.fields.maskt,
        le-ltb side_limit t.width c.fields.width,
        le-ltb side_limit t.height c.fields.height,
        le-ltb 3 mode (omega (arith, c.direct_mode)),
        le-ltb 3 lane c.lane_in,
        pair_taken,
        le-ltb (length out) (4 * (t.width * t.height)) c.room,
      )

  linear-taken : first (linear_tests src t stride out) ≡ 0
  unfolding first
  linear-taken =
      rw (
        le-ltb 7 t.fmt c.fields.fmt,
        le-ltb 3 t.siz c.fields.siz,
        le-ltb 15 t.palette c.fields.palette,
        le-ltb side_limit t.width c.fields.width,
        le-ltb side_limit t.height c.fields.height,
        le-ltb 65536 (length src) c.source_in,
        le-ltb 65535 stride c.stride_in,
        fits.pair,
        le-ltb (length out) (4 * (t.width * t.height)) c.room,
      )

  -- the load is not refused, and leaves what it stored
  pub load_leaves : tile_call bank map reasons src t t.siz t.height (row_words t) stride why last
      ≡ record {
        refusal = 0;
        numbers = length stores ∷ made_up (length src) stores ∷ following last ∷ [];
        buffers = left_by src stores (following last) why bank map reasons;
      }
  unfolding tile_call
  load_leaves = sym (done_or_is _ _ _ _ _ load_taken)

  -- of the bank that it leaves the picture is not refused, and its buffer receives the linear decoding of the source
  pub picture_gives : sample_tile_call left t mode lane out
      ≡ record {
        refusal = 0;
        numbers = length (trail (plain t mode lane) left) ∷ [];
        buffers = over (given (linear t stride) src) out ∷ [];
      }
  unfolding picture_call
  picture_gives =
      let reads : List ℕ = length (trail (plain t mode lane) left) ∷ [] in
      ap (λ l. call (picture_tests left t mode lane (plain_texels t) out) reads (over l out ∷ []) (out ∷ []))
      (round_trip t mode lane stride src bank fits c.direct_mode c.whole_bank)
      ∙ sym (done_is _ _ _ _ picture-taken)

  -- the linear decoding is not refused, and answers and leaves the very same
  pub linear_gives : linear_call src t stride out
      ≡ record {
        refusal = 0;
        numbers = length (trail (linear t stride) src) ∷ [];
        buffers = over (given (linear t stride) src) out ∷ [];
      }
  unfolding linear_call
  linear_gives = sym (done_is _ _ _ _ linear-taken)

  pub calls_agree : sample_tile_call left t mode lane out ≡ linear_call src t stride out
  calls_agree =
      picture_gives
      ∙ ap (λ n. record { refusal = 0; numbers = n ∷ []; buffers = over (given (linear t stride) src) out ∷ [] })
      (reads_same t mode lane stride src bank fits c.direct_mode c.whole_bank)
      ∙ sym linear_gives

-- Of the tile the load and the linear decoding take some fields alone: the calls of the exports, whose tiles have no others, are these.
pub load_fields : (bank map reasons src : List ℕ) (t : Tile) (image rows words stride : ℕ) (why : Reason) (last : ℕ)
    → tile_call bank map reasons src (load_tile_from t.fmt t.siz t.line t.tmem_addr) image rows words stride why last
    ≡ tile_call bank map reasons src t image rows words stride why last
unfolding tile_call
load_fields bank map reasons src t image rows words stride why last = refl

pub linear-fields : (src : List ℕ) (t : Tile) (stride : ℕ) (out : List ℕ)
    → linear_call src (linear_tile_from t.fmt t.siz t.palette t.width t.height) stride out ≡ linear_call src t stride out
unfolding linear_call linear linear_row
linear-fields src t stride out = refl
