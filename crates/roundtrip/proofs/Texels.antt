-- A texel of the bank and one of the source: the same bytes give the same channels.
use mathlib.Core.Path.{◌≡◌, refl, sym, ◌∙◌}
use mathlib.Core.Bool.{Bool, true, false, cond, true≢false}
use mathlib.Core.List.{List}
use Prim.Native.Nat.{ℕ, zero, suc, ◌+◌, ◌*◌, ◌/◌, ◌<◌}
use native.Mathlib.Omega.{arith}
use lib.Dec.{eqb}
use lib.ListN.{length, get_or, length-append}
use Rattle.rules.specs.Reading.{Reading, given, trail, up_to}
use Rattle.rules.specs.Texdec.{Format, rgba16, rgba32, ci4, ci8, ci16, ia4, ia8, ia16, i4, i8, unknown, known}
use Rattle.rules.specs.Picture.{address, direct}
use Rattle.rules.proofs.Readings.{given_then, trail_then}
use Rattle.rules.specs.Linear.{linear_texel}
use Rattle.roundtrip.specs.Fits.{words_for}

-- readings that give the same one by one give the same together
pub given-same : (n : ℕ) (f g : ℕ → Reading) (b c : List ℕ) → ((i : ℕ) → i < n → given (f i) b ≡ given (g i) c)
    → given (up_to n f) b ≡ given (up_to n g) c
unfolding up_to given
given-same zero f g b c h = refl
given-same (suc n) f g b c h =
    given_then (up_to n f) (f n) b
    ∙ rw (given-same n f g b c (λ i m. h i (omega arith)), h n (omega arith)) (sym (given_then (up_to n g) (g n) c))

-- and readings of as many reads one by one make as many together
pub reads_together : (n : ℕ) (f g : ℕ → Reading) (b c : List ℕ) → ((i : ℕ) → length (trail (f i) b) ≡ length (trail (g i) c))
    → length (trail (up_to n f) b) ≡ length (trail (up_to n g) c)
unfolding up_to trail
reads_together zero f g b c h = refl
reads_together (suc n) f g b c h =
    rw (trail_then (up_to n f) (f n) b, trail_then (up_to n g) (g n) c, length-append, length-append, reads_together n f g b c h, h n)

-- a texel makes as many reads of the bank as of the source
pub texel_reads : (bank src : List ℕ) (base palette : ℕ) (swap : Bool) (rel p x : ℕ) (f : Format)
    → length (trail (direct f base palette swap rel x) bank) ≡ length (trail (linear_texel f palette p x) src)
unfolding direct linear_texel trail
texel_reads bank src base palette swap rel p x rgba16 = refl
texel_reads bank src base palette swap rel p x rgba32 = refl
texel_reads bank src base palette swap rel p x ci4 = refl
texel_reads bank src base palette swap rel p x ci8 = refl
texel_reads bank src base palette swap rel p x ci16 = refl
texel_reads bank src base palette swap rel p x ia4 = refl
texel_reads bank src base palette swap rel p x ia8 = refl
texel_reads bank src base palette swap rel p x ia16 = refl
texel_reads bank src base palette swap rel p x i4 = refl
texel_reads bank src base palette swap rel p x i8 = refl
texel_reads bank src base palette swap rel p x unknown = refl

-- the size of a format's texels
abbrev pub format_siz : Format → ℕ
format_siz rgba16 = 2
format_siz rgba32 = 3
format_siz ci4 = 0
format_siz ci8 = 1
format_siz ci16 = 2
format_siz ia4 = 0
format_siz ia8 = 1
format_siz ia16 = 2
format_siz i4 = 0
format_siz i8 = 1
format_siz unknown = 0

abbrev pub siz_column : ℕ → ℕ → ℕ
siz_column siz x = cond (eqb siz 0) (x / 2) (cond (eqb siz 1) x (2 * x))

-- Texel x of a row. The row is at `start` in the bank and at p in the source.
module _ (bank src : List ℕ) (base start p : ℕ) (swap : Bool) (palette width x : ℕ) (x_in : x < width) where
  -- where byte q of the row in the bank is byte q of the row in the source, for q below n
  module _ (n : ℕ)
      (byte : (r s q : ℕ) → q < n → r ≡ start + q → s ≡ p + q → get_or bank (address 4096 base swap r) 0 ≡ get_or src s 0) where
    first : (q : ℕ) → q < n → get_or bank (address 4096 base swap (start + q)) 0 ≡ get_or src (p + q) 0
    first q h = byte (start + q) (p + q) q h refl refl

    second : (q : ℕ) → q + 1 < n → get_or bank (address 4096 base swap (start + q + 1)) 0 ≡ get_or src (p + q + 1) 0
    second q h = byte (start + q + 1) (p + q + 1) (q + 1) h (omega arith) (omega arith)

    pub texel_whole : (f : Format) → known f ≡ true → format_siz f < 3 → n ≡ 8 * words_for (format_siz f) width
        → given (direct f base palette swap (start + siz_column (format_siz f) x) x) bank ≡ given (linear_texel f palette p x) src
    unfolding direct given linear_texel
    texel_whole rgba16 k h e = rw (first (2 * x) (omega arith), second (2 * x) (omega arith))
    texel_whole rgba32 k h e = absurd (omega arith)
    texel_whole ci4 k h e = rw (first (x / 2) (omega arith))
    texel_whole ci8 k h e = rw (first x (omega arith))
    texel_whole ci16 k h e = rw (first (2 * x) (omega arith), second (2 * x) (omega arith))
    texel_whole ia4 k h e = rw (first (x / 2) (omega arith))
    texel_whole ia8 k h e = rw (first x (omega arith))
    texel_whole ia16 k h e = rw (first (2 * x) (omega arith), second (2 * x) (omega arith))
    texel_whole i4 k h e = rw (first (x / 2) (omega arith))
    texel_whole i8 k h e = rw (first x (omega arith))
    texel_whole unknown k h e = absurd (true≢false (sym k))

  -- where byte e of half z of the texel is byte 2·z + e of the texel in the source
  module _
      (byte : (a r s e z : ℕ) → e < 2 → z < 2 → r ≡ start + 2 * x + e → a ≡ address 2048 base swap r + 2048 * z
      → s ≡ p + 4 * x + 2 * z + e
      → get_or bank a 0 ≡ get_or src s 0) where
    pub texel_split : given (direct rgba32 base palette swap (start + 2 * x) x) bank ≡ given (linear_texel rgba32 palette p x) src
    unfolding direct given linear_texel
    texel_split =
        let r = start + 2 * x in
        let low : ℕ → ℕ = address 2048 base swap in
        rw (
          byte (low r) r (p + 4 * x) 0 0 (omega arith) (omega arith) (omega arith) (omega arith) (omega arith),
          byte (low (r + 1)) (r + 1) (p + 4 * x + 1) 1 0 (omega arith) (omega arith) (omega arith) (omega arith) (omega arith),
          byte (low r + 2048) r (p + 4 * x + 2) 0 1 (omega arith) (omega arith) (omega arith) (omega arith) (omega arith),
          byte (low (r + 1) + 2048) (r + 1) (p + 4 * x + 3) 1 1 (omega arith) (omega arith) (omega arith) (omega arith) (omega arith),
        )
