-- Every texel makes the reads of its pair; the four first of a list.
use mathlib.Core.Path.{◌≡◌, refl, ap}
use mathlib.Core.Bool.{Bool, true, false, cond, not, ◌||◌}
use mathlib.Core.List.{List, [], ◌∷◌}
use Prim.Native.Nat.{ℕ, ◌<◌, ◌≤◌}
use native.Mathlib.Decide.{dec_lt}
use native.Mathlib.Omega.{arith}
use lib.Dec.{eqb}
use lib.ListN.{length, take}
use borrow.Author.Tests.{le-leb, lt-leb}
use Rattle.rules.specs.Reading.{trail}
use Rattle.rules.specs.Tile.{Tile}
use Rattle.rules.specs.Texdec.{Format, rgba16, rgba32, ci4, ci8, ci16, ia4, ia8, ia16, i4, i8, unknown, format_of}
use Rattle.rules.specs.Texdec.{known, tlut, step_knows}
use Rattle.rules.specs.Picture.{direct, paletted, texel, format_reads, reads_each}
use Rattle.rules.proofs.Formats.{texel-tlut, texel-direct}
use Rattle.decoder.specs.Rows.{four}
use Rattle.decoder.specs.Sizes.{trail_step}
use Rattle.decoder.proofs.Formats.{format_few}

module _ (base palette : ℕ) (odd : Bool) (rel x : ℕ) (bank : List ℕ) where
  direct_reads : (f : Format) → length (trail (direct f base palette odd rel x) bank) ≡ format_reads f
  unfolding direct trail
  direct_reads rgba16 = refl
  direct_reads rgba32 = refl
  direct_reads ci4 = refl
  direct_reads ci8 = refl
  direct_reads ci16 = refl
  direct_reads ia4 = refl
  direct_reads ia8 = refl
  direct_reads ia16 = refl
  direct_reads i4 = refl
  direct_reads i8 = refl
  direct_reads unknown = refl

module _ (t : Tile) (mode lane : ℕ) (odd : Bool) (rel x : ℕ) (bank : List ℕ) where
  pub texel_reads : length (trail (texel t mode lane odd rel x) bank) ≡ reads_each t mode
  unfolding reads_each paletted trail
  texel_reads = go (dec_lt mode 2)
    where
      go : Dec (mode < 2) → length (trail (texel t mode lane odd rel x) bank) ≡ reads_each t mode
      go (yes p) = rw (texel-direct t mode lane odd rel x p, lt-leb 2 mode p) (direct_reads _ _ odd rel x bank (format_of t.fmt t.siz))
      go (no p) = let q : 2 ≤ mode = omega arith in rw (texel-tlut t mode lane odd rel x q, le-leb 2 mode q)

-- the four first of a list whose four first are known
pub four_is : (l g : List ℕ) → take (length g) l ≡ g → length g ≡ 4 → four l ≡ g
four_is l g e n = go l (rw n at e) n
  where
    go : (l : List ℕ) → take 4 l ≡ g → length g ≡ 4 → four l ≡ g
    go (a ∷ b ∷ c ∷ d ∷ l) e n = e
    go [] e n = let z : 0 ≡ length g = ap length e in absurd (omega arith)
    go (a ∷ []) e n = let z : 1 ≡ length g = ap length e in absurd (omega arith)
    go (a ∷ b ∷ []) e n = let z : 2 ≡ length g = ap length e in absurd (omega arith)
    go (a ∷ b ∷ c ∷ []) e n = let z : 3 ≡ length g = ap length e in absurd (omega arith)

format_none : (f : Format) → eqb (format_reads f) 0 ≡ not (known f)
format_none rgba16 = refl
format_none rgba32 = refl
format_none ci4 = refl
format_none ci8 = refl
format_none ci16 = refl
format_none ia4 = refl
format_none ia8 = refl
format_none ia16 = refl
format_none i4 = refl
format_none i8 = refl
format_none unknown = refl

-- a pair is unknown to the step where its texels make no reads
pub reads_none : (t : Tile) (mode : ℕ) → eqb (reads_each t mode) 0 ≡ not (step_knows mode t.fmt t.siz)
unfolding reads_each
reads_none t mode = go (tlut mode)
  where
    go : (b : Bool) → eqb (cond b 3 (format_reads (format_of t.fmt t.siz))) 0 ≡ not (b || known (format_of t.fmt t.siz))
    go true = refl
    go false = format_none (format_of t.fmt t.siz)

pub reads_few : (t : Tile) (mode : ℕ) → reads_each t mode ≤ 4
unfolding reads_each
reads_few t mode = go (tlut mode)
  where
    go : (b : Bool) → cond b 3 (format_reads (format_of t.fmt t.siz)) ≤ 4
    go true = omega arith
    go false = format_few (format_of t.fmt t.siz)

pub step_few : (observe : Bool) (t : Tile) (mode : ℕ) → trail_step observe t mode ≤ 8
step_few true t mode = omega (arith, reads_few t mode)
step_few false t mode = omega arith
