-- Tables of ready texels, beside the rules' table of IA8: each entry is computed by the rule of its format.
use Rattle.std.specs.Prelude.{List, ◌++◌, ℕ}
use Rattle.rules.specs.Base.{tab}
use Rattle.rules.specs.Texdec.{ready, entry_of, ia4_texel}

-- the texel of each nibble
unfoldable pub ia4_table : List ℕ
ia4_table = tab 16 (λ n. ready (ia4_texel n))

-- of a format of two bytes: the texel of each high byte beside a low byte of 0, then of each low byte beside a high byte of 0
unfoldable pub halves_of : (ℕ → List ℕ) → List ℕ
halves_of f = tab 256 (λ hi. ready (f (entry_of hi 0))) ++ tab 256 (λ lo. ready (f (entry_of 0 lo)))
