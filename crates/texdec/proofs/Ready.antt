-- A ready texel has the channels that it was made of, and the tables of IA4 and IA8 have each texel at its place.
use mathlib.Core.Path.{◌≡◌}
use mathlib.Core.Bool.{Bool, true, false, cond}
use mathlib.Core.List.{[], ◌∷◌}
use Prim.Native.Nat.{ℕ, ◌+◌, ◌*◌, ◌/◌, ◌%◌, ◌<◌, ◌≤◌}
use native.Mathlib.Omega.{arith}
use lib.Bits.{bit_and, bit_or, and_le_r, or_lt}
use lib.Dec.{eqb}
use lib.ListN.{length, get_or}
use Rattle.rules.specs.Texdec.{ia4_texel, ia4_level, ia8_texel, wide4, alpha1, channels, ready, ia8_table}
use Rattle.rules.proofs.Tables.{get_or-tab, length-tab}
use Rattle.texdec.specs.Ready.{ia4_table}

pub channels-ready : (r g b a : ℕ) → r < 256 → g < 256 → b < 256 → a < 256 → channels (ready (r ∷ g ∷ b ∷ a ∷ [])) ≡ r ∷ g ∷ b ∷ a ∷ []
channels-ready r g b a hr hg hb ha =
    let v = a * 16777216 + b * 65536 + g * 256 + r in
    let alpha : v / 16777216 % 256 ≡ a = omega arith in
    let blue : v / 65536 % 256 ≡ b = omega arith in
    let green : v / 256 % 256 ≡ g = omega arith in
    let red : v % 256 ≡ r = omega arith in
    rw (red, green, blue, alpha)

pub ia8_at : (b : ℕ) → b < 256 → channels (get_or ia8_table b 0) ≡ ia8_texel b
unfolding ia8_table
ia8_at b h =
    let level : wide4 (b / 16) < 256 = omega arith in
    let alpha : wide4 (b % 16) < 256 = omega arith in
    rw (get_or-tab 256 (λ b. ready (ia8_texel b)) b 0 h) (channels-ready _ _ _ _ level level level alpha)

pub alpha_small : (b : ℕ) → alpha1 b < 256
alpha_small b = go (eqb b 1)
  where
    go : (t : Bool) → cond t 255 0 < 256
    go true = omega arith
    go false = omega arith

level_small : (i : ℕ) → i ≤ 14 → ia4_level i < 256
level_small i h = or_lt 8 (bit_or (i * 16) (i * 2)) (i / 4) (or_lt 8 (i * 16) (i * 2) (omega arith) (omega arith)) (omega arith)

pub ia4_at : (n : ℕ) → n < 16 → channels (get_or ia4_table n 0) ≡ ia4_texel n
unfolding ia4_table
ia4_at n h =
    let level : ia4_level (bit_and n 14) < 256 = level_small (bit_and n 14) (and_le_r n 14) in
    rw (get_or-tab 16 (λ n. ready (ia4_texel n)) n 0 h) (channels-ready _ _ _ _ level level level (alpha_small (n % 2)))

-- the tables' lengths
pub ia4_length : length ia4_table ≡ 16
unfolding ia4_table
ia4_length = length-tab 16 (λ n. ready (ia4_texel n))

pub ia8_length : length ia8_table ≡ 256
unfolding ia8_table
ia8_length = length-tab 256 (λ b. ready (ia8_texel b))
