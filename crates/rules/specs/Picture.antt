-- What a picture reads and gives: "Rules for pictures (000, 001)".
use Rattle.std.specs.Prelude.{Bool, true, false, cond, ◌&&◌, [], ◌∷◌, ℕ, ◌+◌, ◌*◌, ◌/◌, ◌%◌, eqb}
use Rattle.std.specs.Int.Bits.{bit_xor}
use Rattle.rules.specs.Base.{odd}
use Rattle.rules.specs.Reading.{Reading, give, ask, up_to}
use Rattle.rules.specs.Tile.{Tile}
use Rattle.rules.specs.Texdec.{Format, rgba16, rgba32, ci4, ci8, ci16, ia4, ia8, ia16, i4, i8, unknown, format_of}
use Rattle.rules.specs.Texdec.{tlut, entry_of, rgba16_texel, ia16_texel, ia8_texel, ia4_texel, i4_texel, same4, nibble}
use Rattle.rules.specs.Sampling.{flag, visible}

-- "(rel, xor 4 on odd rows)"
abbrev pub swap_odd : Bool → ℕ → ℕ
swap_odd swap rel = cond swap (bit_xor rel 4) rel

-- "A byte at rel is at (8·tmem_addr + (rel, xor 4 on odd rows)) mod 4,096; index bytes and RGBA32 use mod 2,048."
abbrev pub address : ℕ → ℕ → Bool → ℕ → ℕ
address m base swap rel = (base + swap_odd swap rel) % m

-- One texel without a lookup table, of a format: its base in bytes, its palette, whether its row is odd, its rel and its x.
-- "The second byte takes rel+1 before the xor."
unfoldable pub direct : Format → ℕ → ℕ → Bool → ℕ → ℕ → Reading
direct f base palette swap rel x =
    let at : ℕ → ℕ = address 4096 base swap in
    let low : ℕ → ℕ = address 2048 base swap in
    elim f [
      | rgba16 ↦ ask (at rel) (λ hi. ask (at (rel + 1)) (λ lo. give (rgba16_texel (entry_of hi lo))))
      | rgba32 ↦
          ask (low rel) (λ r. ask (low (rel + 1)) (λ g.
          ask (low rel + 2048) (λ b. ask (low (rel + 1) + 2048) (λ a. give (r ∷ g ∷ b ∷ a ∷ [])))))
      | ci4 ↦ ask (at rel) (λ v. give (same4 (palette * 16 + nibble x v)))
      | ci8 ↦ ask (at rel) (λ v. give (same4 v))
      | ci16 ↦ ask (at rel) (λ hi. ask (at (rel + 1)) (λ lo. give (hi ∷ lo ∷ hi ∷ lo ∷ [])))
      | ia4 ↦ ask (at rel) (λ v. give (ia4_texel (nibble x v)))
      | ia8 ↦ ask (at rel) (λ v. give (ia8_texel v))
      | ia16 ↦ ask (at rel) (λ hi. ask (at (rel + 1)) (λ lo. give (ia16_texel (entry_of hi lo))))
      | i4 ↦ ask (at rel) (λ v. give (i4_texel (nibble x v)))
      | i8 ↦ ask (at rel) (λ v. give (same4 v))
      | unknown ↦ give []
    ]

-- "index is the byte, or for siz 0 palette·16 + nibble (high nibble for even x or fmt 1)"
abbrev pub index : Tile → ℕ → ℕ → ℕ
index t x v = cond (eqb t.siz 0) (t.palette * 16 + nibble (cond (eqb t.fmt 1) 0 x) v) v

-- "the entry is at 2,048 + 8·index + 2·lane"
abbrev pub entry_at : ℕ → ℕ → ℕ
entry_at i lane = 2048 + 8 * i + 2 * lane

abbrev pub entry_texel : ℕ → ℕ → ℕ → Reading
entry_texel mode hi lo = give (cond (eqb mode 2) (rgba16_texel (entry_of hi lo)) (ia16_texel (entry_of hi lo)))

-- one texel through the lookup table
unfoldable pub paletted : Tile → ℕ → ℕ → Bool → ℕ → ℕ → Reading
paletted t mode lane swap rel x =
    ask (address 2048 (8 * t.tmem_addr) swap rel) (λ v.
    ask (entry_at (index t x v) lane) (λ hi.
    ask (entry_at (index t x v) lane + 1) (λ lo.
    entry_texel mode hi lo)))

-- one texel: of tile, mode and lane, on an odd row or not, at rel and x
unfoldable pub texel : Tile → ℕ → ℕ → Bool → ℕ → ℕ → Reading
texel t mode lane swap rel x =
    elim (tlut mode) [
      | true ↦ paletted t mode lane swap rel x
      | false ↦ direct (format_of t.fmt t.siz) (8 * t.tmem_addr) t.palette swap rel x
    ]

-- "c is x div 2, x or 2x for siz 0, 1, and 2 or 3"; "in a plain one c is x for fmt 1 in modes 2 and 3"
abbrev pub column : Tile → ℕ → ℕ → ℕ
column t mode x =
    cond (eqb t.fmt 1 && tlut mode) x
    (cond (eqb t.siz 0) (x / 2) (cond (eqb t.siz 1) x (2 * x)))

-- "rel = (y mod 256)·8·line + c"
abbrev pub row_start : Tile → ℕ → ℕ
row_start t y = y % 256 * (8 * t.line)

-- row y of a plain picture
unfoldable pub plain_row : Tile → ℕ → ℕ → ℕ → Reading
plain_row t mode lane y = up_to t.width (λ x. texel t mode lane (odd y) (row_start t y + column t mode x) x)

-- "Flag 0: the picture is width by height"
unfoldable pub plain : Tile → ℕ → ℕ → Reading
plain t mode lane = up_to t.height (plain_row t mode lane)

-- "Flag 1: the picture is the lookup of 16,384 texels: even row then odd, x parity 0 then 1, rel 0..4,095."
unfoldable pub lookup_row : Tile → ℕ → ℕ → ℕ → Reading
lookup_row t mode lane r = up_to 4096 (λ rel. texel t mode lane (odd (r / 2)) rel (r % 2))

unfoldable pub lookup : Tile → ℕ → ℕ → Reading
lookup t mode lane = up_to 4 (lookup_row t mode lane)

-- the picture that the flag calls for
unfoldable pub picture : Tile → ℕ → ℕ → Reading
picture t mode lane = elim (flag t mode) [ true ↦ lookup t mode lane | false ↦ plain t mode lane ]

-- The visible picture, of the columns and rows that a renderer shows. "Other tiles keep their keys, and so does every lookup picture": the
-- whole tile's flag decides first.
unfoldable pub visible_picture : Tile → ℕ → ℕ → Reading
visible_picture t mode lane = elim (flag t mode) [ true ↦ lookup t mode lane | false ↦ plain (visible t) mode lane ]

-- "texels times 3 in modes 2 and 3, else 1, 2 or 4 by pair"
abbrev pub format_reads : Format → ℕ
format_reads rgba16 = 2
format_reads rgba32 = 4
format_reads ci4 = 1
format_reads ci8 = 1
format_reads ci16 = 2
format_reads ia4 = 1
format_reads ia8 = 1
format_reads ia16 = 2
format_reads i4 = 1
format_reads i8 = 1
format_reads unknown = 0

unfoldable pub reads_each : Tile → ℕ → ℕ
reads_each t mode = cond (tlut mode) 3 (format_reads (format_of t.fmt t.siz))
