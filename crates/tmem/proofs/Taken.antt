-- The bytes of a word, taken of what the source has from there on.
use mathlib.Core.Path.{◌≡◌, refl, ap, sym, ◌∙◌}
use mathlib.Core.Bool.{Bool, true, false, cond}
use mathlib.Core.List.{List, [], ◌∷◌, ◌++◌}
use Prim.Native.Nat.{ℕ, ◌+◌, ◌%◌, ◌<◌, ◌≤◌}
use native.Mathlib.Nat.{zero-add}
use native.Mathlib.Omega.{arith}
use native.Mathlib.Decide.{dec_lt}
use lib.ListN.{length, get_or, take, drop, length-drop, get_or-eq_default}
use mir.Syntax.{w8}
use mir.Val.{Fits}
use Rattle.std.specs.Int.{w64, from_le_bytes}
use Rattle.std.proofs.lemmas.List.{get_or-drop}
use Rattle.std.proofs.lemmas.Nat.{le_bytes_8}
use Rattle.rules.specs.Base.{tab, tab_from}
use Rattle.rules.specs.Load.{word_made_up}
use Rattle.rules.proofs.Tables.{length-tab, get_or-tab}
use Rattle.tmem.specs.declared.source.SourceWord.{SourceWord}
use Rattle.tmem.specs.Part.{place_of, bytes_in, source_bytes, Taken}
use Rattle.tmem.proofs.PastEnd.{word_past, pair_past}

-- eight bytes or more, of which the first eight are taken
pub first_eight : (s : List ℕ) → 8 ≤ length s → take 8 s ≡ source_bytes s (place_of 0 false)
unfolding tab tab_from
first_eight (a ∷ b ∷ c ∷ d ∷ e ∷ f ∷ g ∷ h ∷ s) n = refl
first_eight [] n = absurd (omega arith)
first_eight (a ∷ []) n = absurd (omega arith)
first_eight (a ∷ b ∷ []) n = absurd (omega arith)
first_eight (a ∷ b ∷ c ∷ []) n = absurd (omega arith)
first_eight (a ∷ b ∷ c ∷ d ∷ []) n = absurd (omega arith)
first_eight (a ∷ b ∷ c ∷ d ∷ e ∷ []) n = absurd (omega arith)
first_eight (a ∷ b ∷ c ∷ d ∷ e ∷ f ∷ []) n = absurd (omega arith)
first_eight (a ∷ b ∷ c ∷ d ∷ e ∷ f ∷ g ∷ []) n = absurd (omega arith)

-- fewer, and zeros after them
abbrev pub zeros : List ℕ
zeros = 0 ∷ 0 ∷ 0 ∷ 0 ∷ 0 ∷ 0 ∷ 0 ∷ 0 ∷ []

pub filled_up : (s : List ℕ) → length s < 8 → s ++ drop (length s) zeros ≡ source_bytes s (place_of 0 false)
unfolding tab tab_from
filled_up [] n = refl
filled_up (a ∷ []) n = refl
filled_up (a ∷ b ∷ []) n = refl
filled_up (a ∷ b ∷ c ∷ []) n = refl
filled_up (a ∷ b ∷ c ∷ d ∷ []) n = refl
filled_up (a ∷ b ∷ c ∷ d ∷ e ∷ []) n = refl
filled_up (a ∷ b ∷ c ∷ d ∷ e ∷ f ∷ []) n = refl
filled_up (a ∷ b ∷ c ∷ d ∷ e ∷ f ∷ g ∷ []) n = refl
filled_up (a ∷ b ∷ c ∷ d ∷ e ∷ f ∷ g ∷ h ∷ s) n = absurd (omega arith)

-- two bytes four times over
pub four_pairs : (s : List ℕ) (a b : ℕ) → a ≡ get_or s 0 0 → b ≡ get_or s 1 0
    → a ∷ b ∷ a ∷ b ∷ a ∷ b ∷ a ∷ b ∷ [] ≡ source_bytes s (place_of 0 true)
unfolding tab tab_from
four_pairs s a b p q = λ i. p i ∷ q i ∷ p i ∷ q i ∷ p i ∷ q i ∷ p i ∷ q i ∷ []

-- eight bytes that are kept as one number
pub kept_as_one : (s : List ℕ) (from : ℕ → ℕ) (bs : List ℕ) (n : ℕ) → ((i : ℕ) → Fits w8 (get_or s i 0)) → bs ≡ source_bytes s from
    → n ≡ from_le_bytes w64 bs → bytes_in n ≡ source_bytes s from
kept_as_one s from bs n fits e p =
    le_bytes_8 (source_bytes s from) n (length-tab 8 (λ k. get_or s (from k) 0)) byte (p ∙ ap (from_le_bytes w64) e)
  where
    byte : (i : ℕ) → get_or (source_bytes s from) i 0 < 256
    byte i = go (dec_lt i 8)
      where
        go : Dec (i < 8) → get_or (source_bytes s from) i 0 < 256
        go (yes h) = rw (get_or-tab 8 (λ k. get_or s (from k) 0) i 0 h) (omega (arith, fits (from i)))
        go (no h) = rw (get_or-eq_default (source_bytes s from) 0 {n = i} (omega (arith, length-tab 8 (λ k. get_or s (from k) 0))))
            (omega arith)

-- what is taken of a source's rest is taken of the source
pub taken_of : (src : List ℕ) (at : ℕ) (r : Bool) {w : SourceWord} → Taken (drop at src) (place_of 0 r) w → Taken src (place_of at r) w
taken_of src at r t = record { bytes_are = t.bytes_are ∙ ap (tab 8) (λ i k. byte k i); made_up_is = t.made_up_is ∙ made r }
  where
    byte : (k : ℕ) → get_or (drop at src) (place_of 0 r k) 0 ≡ get_or src (place_of at r k) 0
    byte k = get_or-drop at src (place_of 0 r k) 0 ∙ ap (λ n. get_or src (at + n) 0) (zero-add (cond r (k % 2) k))

    made : (b : Bool) → word_made_up (length (drop at src)) (place_of 0 b) ≡ word_made_up (length src) (place_of at b)
    made false = word_past _ 0 ∙ (omega (arith, length-drop at src)) ∙ sym (word_past (length src) at)
    made true = pair_past _ 0 ∙ (omega (arith, length-drop at src)) ∙ sym (pair_past (length src) at)
