-- Two halves of a table make the ready texel of two bytes: their sum has its channels.
use mathlib.Core.Path.{◌≡◌, refl, sym, ◌∙◌}
use mathlib.Core.List.{List, [], ◌∷◌}
use Prim.Native.Nat.{ℕ, ◌+◌, ◌*◌, ◌/◌, ◌%◌, ◌<◌}
use native.Mathlib.Omega.{arith}
use native.Mathlib.Nat.{add-zero, zero-add}
use lib.Bits.{or_shifted}
use lib.ListN.{length, get_or, get_or-append, length-append}
use lib.Seq.{get_or-append-add}
use Rattle.rules.specs.Base.{tab}
use Rattle.rules.specs.Texdec.{channels, ready, entry_of, wide5, rgba16_texel, ia16_texel}
use Rattle.rules.proofs.Tables.{get_or-tab, length-tab}
use Rattle.texdec.specs.Ready.{halves_of}
use Rattle.texdec.proofs.Ready.{channels-ready, alpha_small}

-- what the sum of the halves of two bytes is to be
pub record Sums (f : ℕ → List ℕ) (hi lo sum : ℕ) : Type 0 where
  pub fits : sum < 4294967296
  pub gives : channels sum ≡ f (entry_of hi lo)

module _ (f : ℕ → List ℕ) where
  pub halves_length : length (halves_of f) ≡ 512
  unfolding halves_of
  halves_length = rw (length-append, length-tab, length-tab)

  high_at : (hi : ℕ) → hi < 256 → get_or (halves_of f) hi 0 ≡ ready (f (entry_of hi 0))
  unfolding halves_of
  high_at hi h =
      let high = tab 256 (λ hi. ready (f (entry_of hi 0))) in
      let inside : hi < length high = rw (length-tab 256 (λ hi. ready (f (entry_of hi 0)))) h in
      get_or-append high _ 0 hi inside ∙ get_or-tab 256 (λ hi. ready (f (entry_of hi 0))) hi 0 h

  low_at : (lo : ℕ) → lo < 256 → get_or (halves_of f) (256 + lo) 0 ≡ ready (f (entry_of 0 lo))
  unfolding halves_of
  low_at lo h =
      let high = tab 256 (λ hi. ready (f (entry_of hi 0))) in
      let low = tab 256 (λ lo. ready (f (entry_of 0 lo))) in
      let there = rw (length-tab 256 (λ hi. ready (f (entry_of hi 0)))) at (get_or-append-add high low lo 0) in
      there ∙ get_or-tab 256 (λ lo. ready (f (entry_of 0 lo))) lo 0 h

-- two ready texels add up channel by channel, where no sum of two channels passes a byte
added : (f : ℕ → List ℕ) (hi lo r g b a r' g' b' a' red green blue alpha : ℕ) → f (entry_of hi lo) ≡ red ∷ green ∷ blue ∷ alpha ∷ []
    → r + r' ≡ red → g + g' ≡ green → b + b' ≡ blue → a + a' ≡ alpha → red < 256 → green < 256 → blue < 256 → alpha < 256
    → Sums f hi lo (ready (r ∷ g ∷ b ∷ a ∷ []) + ready (r' ∷ g' ∷ b' ∷ a' ∷ []))
added f hi lo r g b a r' g' b' a' red green blue alpha e er eg eb ea hr hg hb ha =
    let sum : ready (r ∷ g ∷ b ∷ a ∷ []) + ready (r' ∷ g' ∷ b' ∷ a' ∷ []) ≡ ready (red ∷ green ∷ blue ∷ alpha ∷ []) = omega arith in
    rw sum (record { fits = omega arith; gives = channels-ready red green blue alpha hr hg hb ha ∙ sym e })

-- five bits widened, as a sum
wide : (c : ℕ) → c < 32 → wide5 c ≡ c * 8 + c / 4
wide c h = or_shifted c 3 (c / 4) (omega arith)

wide_small : (c : ℕ) → c < 32 → wide5 c < 256
wide_small c h = rw (wide c h) (omega arith)

-- the upper three of five bits and the lower two
wide_parts : (a b : ℕ) → a < 8 → b < 4 → wide5 (a * 4) + wide5 b ≡ wide5 (a * 4 + b)
wide_parts a b p q =
    let up : a * 4 / 4 ≡ a = omega arith in
    let none : b / 4 ≡ 0 = omega arith in
    let both : (a * 4 + b) / 4 ≡ a = omega arith in
    rw (wide (a * 4) (omega arith), wide b (omega arith), wide (a * 4 + b) (omega arith), up, none, both) (omega arith)

module _ (hi lo : ℕ) (p : hi < 256) (q : lo < 256) where
  -- the fields of each half alone, and of both
  red_high : entry_of hi 0 / 2048 % 32 ≡ entry_of hi lo / 2048 % 32
  red_high = omega arith

  red_low : entry_of 0 lo / 2048 % 32 ≡ 0
  red_low = omega arith

  green_high : entry_of hi 0 / 64 % 32 ≡ hi % 8 * 4
  green_high = omega arith

  green_low : entry_of 0 lo / 64 % 32 ≡ lo / 64
  green_low = omega arith

  green : entry_of hi lo / 64 % 32 ≡ hi % 8 * 4 + lo / 64
  green = omega arith

  blue_high : entry_of hi 0 / 2 % 32 ≡ 0
  blue_high = omega arith

  blue_low : entry_of 0 lo / 2 % 32 ≡ entry_of hi lo / 2 % 32
  blue_low = omega arith

  alpha_high : entry_of hi 0 % 2 ≡ 0
  alpha_high = omega arith

  alpha_low : entry_of 0 lo % 2 ≡ entry_of hi lo % 2
  alpha_low = omega arith

  rgba16_sum : Sums rgba16_texel hi lo (ready (rgba16_texel (entry_of hi 0)) + ready (rgba16_texel (entry_of 0 lo)))
  rgba16_sum =
      let v = entry_of hi lo in
      added rgba16_texel hi lo _ _ _ _ _ _ _ _ _ _ _ _ refl
      (rw (red_high, red_low) (add-zero _))
      (rw (green_high, green_low, green) (wide_parts (hi % 8) (lo / 64) (omega arith) (omega arith)))
      (rw (blue_high, blue_low) (zero-add _))
      (rw (alpha_high, alpha_low) (zero-add _))
      (wide_small (v / 2048 % 32) (omega arith)) (wide_small (v / 64 % 32) (omega arith)) (wide_small (v / 2 % 32) (omega arith))
      (alpha_small (v % 2))

  ia16_sum : Sums ia16_texel hi lo (ready (ia16_texel (entry_of hi 0)) + ready (ia16_texel (entry_of 0 lo)))
  ia16_sum =
      let i : entry_of hi 0 / 256 % 256 + entry_of 0 lo / 256 % 256 ≡ entry_of hi lo / 256 % 256 = omega arith in
      added ia16_texel hi lo _ _ _ _ _ _ _ _ _ _ _ _ refl i i i (omega arith) (omega arith) (omega arith) (omega arith) (omega arith)

  -- the halves of two bytes
  pub rgba16_halves_at : Sums rgba16_texel hi lo (get_or (halves_of rgba16_texel) hi 0 + get_or (halves_of rgba16_texel) (256 + lo) 0)
  rgba16_halves_at = rw (high_at rgba16_texel hi p, low_at rgba16_texel lo q) rgba16_sum

  pub ia16_halves_at : Sums ia16_texel hi lo (get_or (halves_of ia16_texel) hi 0 + get_or (halves_of ia16_texel) (256 + lo) 0)
  ia16_halves_at = rw (high_at ia16_texel hi p, low_at ia16_texel lo q) ia16_sum
