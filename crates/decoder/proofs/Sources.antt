-- Rows of a source: what a texel gives and reads, the bytes that a whole row has, and the rows one after the other.
use mathlib.Core.Path.{◌≡◌, refl, ap, sym, ◌∙◌}
use mathlib.Core.Bool.{Bool, true, false, cond, true≢false}
use mathlib.Core.List.{List, [], ◌++◌, append_assoc}
use Prim.Native.Nat.{ℕ, ◌+◌, ◌*◌, ◌/◌, ◌%◌, ◌<◌, ◌≤◌}
use native.Mathlib.Nat.{mul_comm, mul_left_comm, le_refl}
use native.Mathlib.Omega.{arith}
use lib.Dec.{eqb}
use lib.ListN.{length, get_or, length-append, get_or-eq_default}
use lib.Seq.{take_all}
use Rattle.rules.specs.Base.{over}
use Rattle.rules.specs.Reading.{Reading, given, trail, up_to}
use Rattle.rules.specs.Texdec.{Format, rgba16, rgba32, ci4, ci8, ci16, ia4, ia8, ia16, i4, i8, unknown, known, nibble}
use Rattle.rules.specs.Picture.{format_reads}
use Rattle.rules.specs.Linear.{linear_texel}
use Rattle.rules.proofs.Readings.{given-more, trail-length}
use Rattle.rules.proofs.Parts.{Parts, length_whole, given_parts, part_ends}
use Rattle.decoder.specs.Rows.{four}
use Rattle.decoder.specs.Linear.{byte_of, linear_bytes, linear_part, linear_rows}
use Rattle.decoder.specs.Formats.{halved}
use Rattle.decoder.proofs.Formats.{wide}
use Rattle.decoder.proofs.Lengths.{four_is}

module _ (palette p x : ℕ) (src : List ℕ) where
  linear-four : (f : Format) → known f ≡ true → length (given (linear_texel f palette p x) src) ≡ 4
  unfolding linear_texel given
  linear-four rgba16 k = refl
  linear-four rgba32 k = refl
  linear-four ci4 k = refl
  linear-four ci8 k = refl
  linear-four ci16 k = refl
  linear-four ia4 k = refl
  linear-four ia8 k = refl
  linear-four ia16 k = refl
  linear-four i4 k = refl
  linear-four i8 k = refl
  linear-four unknown k = absurd (true≢false (sym k))

  linear_reads : (f : Format) → length (trail (linear_texel f palette p x) src) ≡ format_reads f
  unfolding linear_texel trail
  linear_reads rgba16 = refl
  linear_reads rgba32 = refl
  linear_reads ci4 = refl
  linear_reads ci8 = refl
  linear_reads ci16 = refl
  linear_reads ia4 = refl
  linear_reads ia8 = refl
  linear_reads ia16 = refl
  linear_reads i4 = refl
  linear_reads i8 = refl
  linear_reads unknown = refl

  -- the channels that are put are those that it gives
  pub put-linear : (f : Format) (l : List ℕ) → known f ≡ true → l ≡ given (linear_texel f palette p x) src
      → four l ≡ given (linear_texel f palette p x) src
  put-linear f l k e =
      let g : List ℕ = given (linear_texel f palette p x) src in
      rw e (four_is g g (take_all (length g) g (le_refl (length g))) (linear-four f k))

-- a row past the source's end gives what none gives, whichever texel it is
module _ (palette p x : ℕ) (src : List ℕ) (h : length src ≤ p) where
  zero : (a : ℕ) → p ≤ a → get_or src a 0 ≡ 0
  zero a l = get_or-eq_default src 0 (omega arith)

  none : nibble x 0 ≡ 0
  none = go (eqb (x % 2) 0)
    where
      go : (b : Bool) → cond b (0 / 16) (0 % 16) ≡ 0
      go true = refl
      go false = refl

  pub past_gives : (f : Format) → given (linear_texel f palette p x) src ≡ given (linear_texel f palette 0 0) []
  unfolding linear_texel given
  past_gives rgba16 = rw (zero (p + 2 * x) (omega arith), zero (p + 2 * x + 1) (omega arith)) refl
  past_gives rgba32 =
      rw (
        zero (p + 4 * x) (omega arith),
        zero (p + 4 * x + 1) (omega arith),
        zero (p + 4 * x + 2) (omega arith),
        zero (p + 4 * x + 3) (omega arith),
      ) refl
  past_gives ci4 = rw (zero (p + x / 2) (omega arith), none) refl
  past_gives ci8 = rw (zero (p + x) (omega arith)) refl
  past_gives ci16 = rw (zero (p + 2 * x) (omega arith), zero (p + 2 * x + 1) (omega arith)) refl
  past_gives ia4 = rw (zero (p + x / 2) (omega arith), none) refl
  past_gives ia8 = rw (zero (p + x) (omega arith)) refl
  past_gives ia16 = rw (zero (p + 2 * x) (omega arith), zero (p + 2 * x + 1) (omega arith)) refl
  past_gives i4 = rw (zero (p + x / 2) (omega arith), none) refl
  past_gives i8 = rw (zero (p + x) (omega arith)) refl
  past_gives unknown = refl

-- and so with those of two
pub put_both : (ys old a b : List ℕ) {g h : List ℕ} → four a ≡ g → four b ≡ h → ys ≡ over (four a ++ four b) old → ys ≡ over (g ++ h) old
put_both ys old a b {g} {h} e f p = p ∙ ap (λ l. over (l ++ four b) old) e ∙ ap (λ l. over (g ++ l) old) f

-- the bytes of texel x of a whole row of n texels are there: its only one, or byte k of the g that it has
module _ (f : Format) (x n start size : ℕ) (within : x < n) (there : start + linear_bytes f n ≤ size) where
  pub byte_there : format_reads f ≡ 1 → start + byte_of f x < size
  byte_there e = go (halved f) there
    where
      go : (b : Bool) → start + cond b ((n + 1) / 2) (format_reads f * n) ≤ size → start + cond b (x / 2) x < size
      go true h = omega arith
      go false h = let h' = rw e at h in omega (arith, h', within)

  pub wide_there : (g k at : ℕ) → format_reads f ≡ g → 2 ≤ g → k < g → at ≡ start + g * x + k → at < size
  wide_there g k at e two h p =
      let q = rw (wide f (rw e two), e) at there in
      omega (arith, q, part_ends g x n within, p, h)

-- A row as its texels, and the rows one after the other.
module _ (f : Format) (palette : ℕ) (src : List ℕ) (knows : known f ≡ true) (n : ℕ) where
  pub row_parts : (start : ℕ)
      → Parts n (λ i. given (linear_texel f palette start i) src) (λ i. given (linear_part f palette start i) src) 4
  row_parts start =
      given_parts (linear_texel f palette start) src n 4
      (λ i. linear-four palette start i src f knows)

  -- by pairs
  pub pair_parts : (start : ℕ)
      → Parts n
      (λ k.
      given (linear_texel f palette start (2 * k)) src
      ++ given (linear_texel f palette start (2 * k + 1)) src)
      (λ k. given (linear_part f palette start (2 * k)) src) 8
  unfolding up_to given
  pair_parts start =
      record {
        none = refl;
        more = λ k h.
            let two : 2 * (k + 1) ≡ 2 * k + 1 + 1 = omega arith in
            rw (two, given-more texel src (2 * k + 1), given-more texel src (2 * k), append_assoc);
        each = λ k h.
            rw (
              length-append,
              linear-four palette start (2 * k) src f knows,
              linear-four palette start (2 * k + 1) src f knows,
            );
      }
    where
      texel : ℕ → Reading
      texel = linear_texel f palette start

module _ (f : Format) (palette stride width : ℕ) (src : List ℕ) where
  pub rows_parts : known f ≡ true → (n : ℕ)
      → Parts n (λ y. given (linear_part f palette (y * stride) width) src) (λ y. given (linear_rows f palette stride width y) src)
      (4 * width)
  rows_parts knows n =
      given_parts (λ y. linear_part f palette (y * stride) width) src n (4 * width)
      (λ y. length_whole (row_parts f palette src knows width (y * stride)) width (le_refl width))

  -- their reads
  pub rows_reads : (n : ℕ) → length (trail (linear_rows f palette stride width n) src) ≡ format_reads f * (width * n)
  rows_reads n =
      let each : ℕ = format_reads f in
      trail-length (λ y. linear_part f palette (y * stride) width) src (width * each) n
      (λ y. trail-length (linear_texel f palette (y * stride)) src each width
      (λ i. linear_reads palette (y * stride) i src f))
      ∙ rw (mul_comm width each) (mul_left_comm n each width ∙ ap (λ m. each * m) (mul_comm n width))
