-- The declared formats are the rules' known ones: by the place of a pair in the rule's list, and by the reads of a texel.
use mathlib.Core.Path.{◌≡◌, refl, sym}
use mathlib.Core.Bool.{Bool, true, false, not, ◌||◌, true≢false}
use mathlib.Core.List.{List, [], ◌∷◌}
use Prim.Native.Nat.{ℕ, ◌+◌, ◌*◌, ◌<◌, ◌≤◌}
use native.Mathlib.Omega.{arith}
use native.Mathlib.Decide.{dec_lt}
use lib.Dec.{T}
use lib.ListN.{get_or, get_or-eq_default}
use borrow.Author.Tests.{le-leb, lt-leb, ne_eqb}
use Rattle.rules.specs.Base.{mem}
use Rattle.rules.specs.Reading.{ask, give}
use Rattle.rules.specs.Texdec as rules
use Rattle.rules.specs.Texdec.{rgba16, rgba32, ci4, ci8, ci16, ia4, ia8, ia16, i4, i8, unknown}
use Rattle.rules.specs.Texdec.{formats, format_of, known, accepted}
use Rattle.rules.specs.Picture.{direct, format_reads, address}
use Rattle.rules.specs.Linear.{linear_texel}
use Rattle.rules.proofs.Computed.{all, computed}
use Rattle.rules.proofs.Formats.{accepted-known}
use Rattle.decoder.specs.declared.format.Format.{Format}
use Rattle.decoder.specs.declared.format.Format.TheVariants.{Rgba16, Rgba32, Ci4, Ci8, Ci16, Ia4, Ia8, Ia16, I4, I8}
use Rattle.decoder.specs.Formats.{rule_of, halved, of_byte, of_pair}
use Rattle.decoder.specs.Linear.{byte_of}

-- the format at a place of the rule's list, which has four sizes for each format
abbrev pub format_at : ℕ → rules.Format
format_at place = get_or formats place unknown

-- a pair's format stands at 4 times its format and its size
pub placed : (fmt siz : ℕ) → siz ≤ 3 → format_of fmt siz ≡ format_at (4 * fmt + siz)
unfolding format_of
placed fmt siz h = rw (le-leb siz 3 h)

-- what passes at each place of the list but some, and of an unknown format, passes at every other place
outside : (l : List ℕ) (p : rules.Format → Bool) → T (all 18 (λ k. mem k l || p (format_at k))) → T (p unknown)
    → (n : ℕ) → mem n l ≡ false → T (p (format_at n))
outside l p t u n e = go (dec_lt n 18)
  where
    go : Dec (n < 18) → T (p (format_at n))
    go (yes h) = rw e at (computed 18 (λ k. mem k l || p (format_at k)) t n h)
    go (no h) = let q : 18 ≤ n = omega arith in rw (get_or-eq_default formats unknown q) u

abbrev pub Not : ℕ → ℕ → Type 0
Not n k = n ≡ k → ⊥

abbrev pub is_i8 : rules.Format → Bool
is_i8 rgba16 = false
is_i8 rgba32 = false
is_i8 ci4 = false
is_i8 ci8 = false
is_i8 ci16 = false
is_i8 ia4 = false
is_i8 ia8 = false
is_i8 ia16 = false
is_i8 i4 = false
is_i8 i8 = true
is_i8 unknown = false

only_i8 : (f : rules.Format) → known f ≡ true → T (not (known f) || is_i8 f) → f ≡ i8
only_i8 rgba16 k t = absurd t
only_i8 rgba32 k t = absurd t
only_i8 ci4 k t = absurd t
only_i8 ci8 k t = absurd t
only_i8 ci16 k t = absurd t
only_i8 ia4 k t = absurd t
only_i8 ia8 k t = absurd t
only_i8 ia16 k t = absurd t
only_i8 i4 k t = absurd t
only_i8 i8 k t = refl
only_i8 unknown k t = absurd (true≢false (sym k))

-- beside ten places only I8 has a known format
pub last : (n : ℕ) → known (format_at n) ≡ true → Not n 2 → Not n 3 → Not n 8 → Not n 9 → Not n 10 → Not n 11 → Not n 12 → Not n 13
    → Not n 14 → Not n 16 → format_at n ≡ i8
unfolding mem
last n k a b c d e f g h i j =
    only_i8 (format_at n) k
    (outside (2 ∷ 3 ∷ 8 ∷ 9 ∷ 10 ∷ 11 ∷ 12 ∷ 13 ∷ 14 ∷ 16 ∷ []) (λ f. not (known f) || is_i8 f) tt tt n
    (simp (
      ne_eqb n 2 a,
      ne_eqb n 3 b,
      ne_eqb n 8 c,
      ne_eqb n 9 d,
      ne_eqb n 10 e,
      ne_eqb n 11 f,
      ne_eqb n 12 g,
      ne_eqb n 13 h,
      ne_eqb n 14 i,
      ne_eqb n 16 j,
    )))

-- without a lookup table an accepted pair has a known format
pub direct-known : (mode fmt siz : ℕ) → mode < 2 → accepted mode fmt siz ≡ true → known (format_of fmt siz) ≡ true
direct-known mode fmt siz h a = rw (lt-leb 2 mode h) at (accepted-known mode fmt siz a)

pub rule_known : (f : Format) → known (rule_of f) ≡ true
rule_known Rgba16 = refl
rule_known Rgba32 = refl
rule_known Ci4 = refl
rule_known Ci8 = refl
rule_known Ci16 = refl
rule_known Ia4 = refl
rule_known Ia8 = refl
rule_known Ia16 = refl
rule_known I4 = refl
rule_known I8 = refl

-- RGBA32 alone has neither one read nor two
pub only_rgba32 : (f : Format) → Not (format_reads (rule_of f)) 1 → Not (format_reads (rule_of f)) 2 → rgba32 ≡ rule_of f
only_rgba32 Rgba16 a b = absurd (b refl)
only_rgba32 Rgba32 a b = refl
only_rgba32 Ci4 a b = absurd (a refl)
only_rgba32 Ci8 a b = absurd (a refl)
only_rgba32 Ci16 a b = absurd (b refl)
only_rgba32 Ia4 a b = absurd (a refl)
only_rgba32 Ia8 a b = absurd (a refl)
only_rgba32 Ia16 a b = absurd (b refl)
only_rgba32 I4 a b = absurd (a refl)
only_rgba32 I8 a b = absurd (a refl)

-- A texel of one read is made of its byte, and one of two of its bytes.
module _ (palette x : ℕ) where
  module _ (base : ℕ) (odd : Bool) (rel : ℕ) where
    pub direct_one : (f : Format) → format_reads (rule_of f) ≡ 1
        → direct (rule_of f) base palette odd rel x ≡ ask (address 4096 base odd rel) (λ v. give (of_byte (rule_of f) palette x v))
    unfolding direct
    direct_one Rgba16 e = absurd (omega arith)
    direct_one Rgba32 e = absurd (omega arith)
    direct_one Ci4 e = refl
    direct_one Ci8 e = refl
    direct_one Ci16 e = absurd (omega arith)
    direct_one Ia4 e = refl
    direct_one Ia8 e = refl
    direct_one Ia16 e = absurd (omega arith)
    direct_one I4 e = refl
    direct_one I8 e = refl

    pub direct_two : (f : Format) → format_reads (rule_of f) ≡ 2
        → direct (rule_of f) base palette odd rel x
        ≡ ask (address 4096 base odd rel) (λ hi. ask (address 4096 base odd (rel + 1)) (λ lo. give (of_pair (rule_of f) hi lo)))
    unfolding direct
    direct_two Rgba16 e = refl
    direct_two Rgba32 e = absurd (omega arith)
    direct_two Ci4 e = absurd (omega arith)
    direct_two Ci8 e = absurd (omega arith)
    direct_two Ci16 e = refl
    direct_two Ia4 e = absurd (omega arith)
    direct_two Ia8 e = absurd (omega arith)
    direct_two Ia16 e = refl
    direct_two I4 e = absurd (omega arith)
    direct_two I8 e = absurd (omega arith)

  module _ (p : ℕ) where
    pub linear_one : (f : Format) → format_reads (rule_of f) ≡ 1
        → linear_texel (rule_of f) palette p x ≡ ask (p + byte_of (rule_of f) x) (λ v. give (of_byte (rule_of f) palette x v))
    unfolding linear_texel
    linear_one Rgba16 e = absurd (omega arith)
    linear_one Rgba32 e = absurd (omega arith)
    linear_one Ci4 e = refl
    linear_one Ci8 e = refl
    linear_one Ci16 e = absurd (omega arith)
    linear_one Ia4 e = refl
    linear_one Ia8 e = refl
    linear_one Ia16 e = absurd (omega arith)
    linear_one I4 e = refl
    linear_one I8 e = refl

    pub linear_two : (f : Format) → format_reads (rule_of f) ≡ 2
        → linear_texel (rule_of f) palette p x
        ≡ ask (p + 2 * x) (λ hi. ask (p + 2 * x + 1) (λ lo. give (of_pair (rule_of f) hi lo)))
    unfolding linear_texel
    linear_two Rgba16 e = refl
    linear_two Rgba32 e = absurd (omega arith)
    linear_two Ci4 e = absurd (omega arith)
    linear_two Ci8 e = absurd (omega arith)
    linear_two Ci16 e = refl
    linear_two Ia4 e = absurd (omega arith)
    linear_two Ia8 e = absurd (omega arith)
    linear_two Ia16 e = refl
    linear_two I4 e = absurd (omega arith)
    linear_two I8 e = absurd (omega arith)

-- one of more reads than one shares no byte
pub wide : (f : rules.Format) → 2 ≤ format_reads f → halved f ≡ false
wide rgba16 h = refl
wide rgba32 h = refl
wide ci4 h = absurd (omega arith)
wide ci8 h = refl
wide ci16 h = refl
wide ia4 h = absurd (omega arith)
wide ia8 h = refl
wide ia16 h = refl
wide i4 h = absurd (omega arith)
wide i8 h = refl
wide unknown h = refl

-- no format has more than four
pub format_few : (f : rules.Format) → format_reads f ≤ 4
format_few rgba16 = omega arith
format_few rgba32 = omega arith
format_few ci4 = omega arith
format_few ci8 = omega arith
format_few ci16 = omega arith
format_few ia4 = omega arith
format_few ia8 = omega arith
format_few ia16 = omega arith
format_few i4 = omega arith
format_few i8 = omega arith
format_few unknown = omega arith
