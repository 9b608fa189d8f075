-- A pair that is accepted is known to the texel step; and what a texel of a known pair reads and gives.
use mathlib.Core.Path.{◌≡◌, refl, ap, sym, ◌∙◌}
use mathlib.Core.Bool.{Bool, true, false, cond, ◌&&◌, ◌||◌, true≢false}
use mathlib.Core.List.{List, [], ◌∷◌}
use Prim.Native.Nat.{ℕ, ◌+◌, ◌*◌, ◌<◌, ◌≤◌}
use native.Mathlib.Omega.{arith}
use native.Mathlib.Decide.{dec_lt}
use lib.Dec.{eqb, ltb, leb}
use lib.ListN.{length, get_or}
use borrow.Author.Tests.{eqb-true, le-leb, lt-leb}
use Rattle.rules.specs.Base.{any}
use Rattle.rules.specs.Tile.{Tile}
use Rattle.rules.specs.Texdec.{Format, rgba16, rgba32, ci4, ci8, ci16, ia4, ia8, ia16, i4, i8, unknown, known, format_of}
use Rattle.rules.specs.Texdec.{tlut, Pair, direct_pairs, accepted_direct, accepted, step_knows, entry_of, rgba16_texel, ia16_texel}
use Rattle.rules.specs.Reading.{given, trail}
use Rattle.rules.specs.Sampling.{is_rgba32}
use Rattle.rules.specs.Picture.{address, direct, index, entry_at, paletted, texel, format_reads}
use Rattle.rules.proofs.Ranges.{both}

-- a test holds of every pair of a list
abbrev pub every_pair : (ℕ → ℕ → Bool) → List Pair → Bool
every_pair g [] = true
every_pair g (p ∷ l) = g p.fmt p.siz && every_pair g l

listed : (g : ℕ → ℕ → Bool) (fmt siz : ℕ) (l : List Pair) → every_pair g l ≡ true
    → any (λ p. eqb fmt p.fmt && eqb siz p.siz) l ≡ true → g fmt siz ≡ true
unfolding any
listed g fmt siz [] k h = absurd (true≢false (sym h))
listed g fmt siz (p ∷ l) k h =
    go (eqb fmt p.fmt && eqb siz p.siz) refl h (both _ _ k) (listed g fmt siz l)
  where
    go : (t : Bool) → (eqb fmt p.fmt && eqb siz p.siz) ≡ t → (t || any (λ p. eqb fmt p.fmt && eqb siz p.siz) l) ≡ true
        → (g p.fmt p.siz ≡ true) × (every_pair g l ≡ true)
        → (every_pair g l ≡ true → any (λ p. eqb fmt p.fmt && eqb siz p.siz) l ≡ true → g fmt siz ≡ true)
        → g fmt siz ≡ true
    go true e h' k' ih =
        let q = both (eqb fmt p.fmt) (eqb siz p.siz) e in
        rw (eqb-true fmt p.fmt q.0, eqb-true siz p.siz q.1) k'.0
    go false e h' k' ih = ih k'.1 h'

-- a test that antt computes at each accepted pair holds of every one
pub of_direct : (g : ℕ → ℕ → Bool) → every_pair g direct_pairs ≡ true → (fmt siz : ℕ) → accepted_direct fmt siz ≡ true → g fmt siz ≡ true
unfolding accepted_direct
of_direct g k fmt siz h = listed g fmt siz direct_pairs k h

pub direct-known : (fmt siz : ℕ) → accepted_direct fmt siz ≡ true → known (format_of fmt siz) ≡ true
unfolding format_of
direct-known fmt siz h = of_direct (λ fmt siz. known (format_of fmt siz)) refl fmt siz h

-- without a lookup table a pair is accepted only from the list
pub accepted-direct : (mode fmt siz : ℕ) → mode < 2 → accepted mode fmt siz ≡ true → accepted_direct fmt siz ≡ true
unfolding accepted
accepted-direct mode fmt siz h a = rw (lt-leb 2 mode h) at a

-- document 02's item 10: "a pair accepted before decoding is always known to the texel step, in all four modes"
pub accepted-known : (mode fmt siz : ℕ) → accepted mode fmt siz ≡ true → step_knows mode fmt siz ≡ true
unfolding accepted
accepted-known mode fmt siz a = go (tlut mode) a
  where
    go : (t : Bool) → ((t && leb fmt 7 && leb siz 3) || accepted_direct fmt siz) ≡ true → (t || known (format_of fmt siz)) ≡ true
    go true a = refl
    go false a = direct-known fmt siz a

-- in modes 2 and 3 a texel goes through the lookup table, in modes 0 and 1 it is its format's
pub texel-tlut : (t : Tile) (mode lane : ℕ) (swap : Bool) (rel x : ℕ) → 2 ≤ mode
    → texel t mode lane swap rel x ≡ paletted t mode lane swap rel x
unfolding texel
texel-tlut t mode lane swap rel x h = rw (texel, le-leb 2 mode h)

pub texel-direct : (t : Tile) (mode lane : ℕ) (swap : Bool) (rel x : ℕ) → mode < 2
    → texel t mode lane swap rel x ≡ direct (format_of t.fmt t.siz) (8 * t.tmem_addr) t.palette swap rel x
unfolding texel
texel-direct t mode lane swap rel x h = rw (texel, lt-leb 2 mode h)

-- a texel of a known format gives four bytes
pub direct-four : (f : Format) (base palette : ℕ) (swap : Bool) (rel x : ℕ) (b : List ℕ) → known f ≡ true
    → length (given (direct f base palette swap rel x) b) ≡ 4
unfolding direct given
direct-four rgba16 base palette swap rel x b k = refl
direct-four rgba32 base palette swap rel x b k = refl
direct-four ci4 base palette swap rel x b k = refl
direct-four ci8 base palette swap rel x b k = refl
direct-four ci16 base palette swap rel x b k = refl
direct-four ia4 base palette swap rel x b k = refl
direct-four ia8 base palette swap rel x b k = refl
direct-four ia16 base palette swap rel x b k = refl
direct-four i4 base palette swap rel x b k = refl
direct-four i8 base palette swap rel x b k = refl
direct-four unknown base palette swap rel x b k = absurd (true≢false (sym k))

-- The reads of a texel without a lookup table: two in each half of the bank for (0,3), one for sizes 0 and 1, else two.
abbrev pub pair_reads : ℕ → ℕ → ℕ
pair_reads fmt siz = cond (is_rgba32 fmt siz) 4 (cond (ltb siz 2) 1 2)

reads_pair : (fmt siz : ℕ) → accepted_direct fmt siz ≡ true → format_reads (format_of fmt siz) ≡ pair_reads fmt siz
unfolding format_of
reads_pair fmt siz h = eqb-true _ _ (of_direct (λ fmt siz. eqb (format_reads (format_of fmt siz)) (pair_reads fmt siz)) refl fmt siz h)

-- the addresses, by their number
unfoldable pub reads_by : ℕ → ℕ → Bool → ℕ → List ℕ
reads_by n base swap rel =
    let low : ℕ → ℕ = address 2048 base swap in
    let at : ℕ → ℕ = address 4096 base swap in
    cond (eqb n 4) (low rel ∷ low (rel + 1) ∷ (low rel + 2048) ∷ (low (rel + 1) + 2048) ∷ [])
    (cond (eqb n 1) (at rel ∷ []) (at rel ∷ at (rel + 1) ∷ []))

format_trail : (f : Format) (base palette : ℕ) (swap : Bool) (rel x : ℕ) (b : List ℕ) → known f ≡ true
    → trail (direct f base palette swap rel x) b ≡ reads_by (format_reads f) base swap rel
unfolding direct trail reads_by
format_trail rgba16 base palette swap rel x b k = refl
format_trail rgba32 base palette swap rel x b k = refl
format_trail ci4 base palette swap rel x b k = refl
format_trail ci8 base palette swap rel x b k = refl
format_trail ci16 base palette swap rel x b k = refl
format_trail ia4 base palette swap rel x b k = refl
format_trail ia8 base palette swap rel x b k = refl
format_trail ia16 base palette swap rel x b k = refl
format_trail i4 base palette swap rel x b k = refl
format_trail i8 base palette swap rel x b k = refl
format_trail unknown base palette swap rel x b k = absurd (true≢false (sym k))

-- what a direct texel of an accepted pair reads, whatever the bank holds
pub direct-trail : (fmt siz base palette : ℕ) (swap : Bool) (rel x : ℕ) (b : List ℕ) → accepted_direct fmt siz ≡ true
    → trail (direct (format_of fmt siz) base palette swap rel x) b ≡ reads_by (pair_reads fmt siz) base swap rel
direct-trail fmt siz base palette swap rel x b h =
    format_trail (format_of fmt siz) base palette swap rel x b (direct-known fmt siz h)
    ∙ ap (λ n. reads_by n base swap rel) (reads_pair fmt siz h)

-- A texel that the step knows gives four bytes.
either_four : (b : Bool) (v : ℕ) → length (cond b (rgba16_texel v) (ia16_texel v)) ≡ 4
either_four true v = refl
either_four false v = refl

module _ (t : Tile) (mode lane : ℕ) (odd : Bool) (rel x : ℕ) (bank : List ℕ) where
  paletted-four : length (given (paletted t mode lane odd rel x) bank) ≡ 4
  unfolding paletted given
  paletted-four =
      let v = get_or bank (address 2048 (8 * t.tmem_addr) odd rel) 0 in
      let at = entry_at (index t x v) lane in
      either_four (eqb mode 2) (entry_of (get_or bank at 0) (get_or bank (at + 1) 0))

  pub texel-four : step_knows mode t.fmt t.siz ≡ true → length (given (texel t mode lane odd rel x) bank) ≡ 4
  texel-four h = go (dec_lt mode 2)
    where
      go : Dec (mode < 2) → length (given (texel t mode lane odd rel x) bank) ≡ 4
      go (yes p) =
          rw (texel-direct t mode lane odd rel x p)
          (direct-four (format_of t.fmt t.siz) _ _ odd rel x bank (rw (lt-leb 2 mode p) at h))
      go (no p) = let q : 2 ≤ mode = omega arith in rw (texel-tlut t mode lane odd rel x q) paletted-four
