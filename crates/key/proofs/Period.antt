-- Rows 256 apart read the same bytes: the first 256 rows of a plain picture read all that it reads.
use mathlib.Core.Path.{◌≡◌, refl, ap, ap₂, sym, ◌∙◌}
use mathlib.Core.Bool.{Bool, true, false, ◌||◌, or-true}
use mathlib.Core.List.{List}
use Prim.Native.Nat.{ℕ, zero, suc, ◌+◌, ◌*◌, ◌%◌, ◌<◌, ◌≤◌, min}
use native.Mathlib.Omega.{arith}
use native.Mathlib.Decide.{dec_le, ℕ_discrete}
use lib.Dec.{eqb}
use lib.ListN.{replicate}
use Rattle.rules.specs.Base.{mem}
use Rattle.rules.specs.Tile.{Tile}
use Rattle.rules.specs.Reading.{Reading, trail, up_to}
use Rattle.rules.specs.Sampling.{flag, visible}
use Rattle.rules.specs.Picture.{texel, column, plain_row, plain, lookup, visible_picture}
use Rattle.key.specs.Notes.{noted, Notes}
use Rattle.rules.proofs.Readings.{trail_then}
use Rattle.rules.proofs.Tables.{mem-append}
use Rattle.key.proofs.Notes.{notes_of, notes_same}

mem-more : (f : ℕ → Reading) (b : List ℕ) (n a : ℕ)
    → mem a (trail (up_to (suc n) f) b) ≡ (mem a (trail (up_to n f) b) || mem a (trail (f n) b))
unfolding up_to
mem-more f b n a = ap (mem a) (trail_then (up_to n f) (f n) b) ∙ mem-append a (trail (up_to n f) b) (trail (f n) b)

-- what one reading reads, the row of them reads
pub covered : (f : ℕ → Reading) (b : List ℕ) (n k a : ℕ) → k < n → mem a (trail (f k) b) ≡ true → mem a (trail (up_to n f) b) ≡ true
covered f b zero k a h m = absurd (omega arith)
covered f b (suc n) k a h m = mem-more f b n a ∙ go (ℕ_discrete k n) (covered f b n k a)
  where
    go : Dec (k ≡ n) → (k < n → mem a (trail (f k) b) ≡ true → mem a (trail (up_to n f) b) ≡ true)
        → (mem a (trail (up_to n f) b) || mem a (trail (f n) b)) ≡ true
    go (yes e) ih = rw (← e, m) (or-true (mem a (trail (up_to k f) b)))
    go (no e) ih = rw (ih (omega arith) m)

absorbed : (s t : Bool) → (t ≡ true → s ≡ true) → (s || t) ≡ s
absorbed true t h = refl
absorbed false true h = sym (h refl)
absorbed false false h = refl

pub capped : (f : ℕ → Reading) (b : List ℕ) → ((y : ℕ) → f y ≡ f (y % 256)) → (n a : ℕ)
    → mem a (trail (up_to (min n 256) f) b) ≡ mem a (trail (up_to n f) b)
capped f b p zero a = refl
capped f b p (suc n) a = go (dec_le (suc n) 256) (capped f b p n a)
  where
    go : Dec (suc n ≤ 256) → mem a (trail (up_to (min n 256) f) b) ≡ mem a (trail (up_to n f) b)
        → mem a (trail (up_to (min (suc n) 256) f) b) ≡ mem a (trail (up_to (suc n) f) b)
    go (yes h) ih = let e : min (suc n) 256 ≡ suc n = omega arith in rw e
    go (no h) ih =
        let e : min (suc n) 256 ≡ 256 = omega arith in
        let d : min n 256 ≡ 256 = omega arith in
        let all : mem a (trail (up_to 256 f) b) ≡ mem a (trail (up_to n f) b) = rw d at ih in
        rw e
        (all ∙ sym (mem-more f b n a ∙ absorbed _ _ (λ m. sym all ∙ covered f b 256 (n % 256) a (omega arith) (rw (p n) at m))))

row_period_lem : (t : Tile) (mode lane y : ℕ) → plain_row t mode lane y ≡ plain_row t mode lane (y % 256)
unfolding plain_row
row_period_lem t mode lane y =
    let o : y % 2 ≡ y % 256 % 2 = omega arith in
    let s : y % 256 ≡ y % 256 % 256 = omega arith in
    ap₂ (λ (o s : ℕ). up_to t.width (λ x. texel t mode lane (eqb o 1) (s * (8 * t.line) + column t mode x) x)) o s

pub plain-capped : (t : Tile) (mode lane : ℕ) (b : List ℕ) (a : ℕ)
    → mem a (trail (up_to (min t.height 256) (plain_row t mode lane)) b) ≡ mem a (trail (plain t mode lane) b)
unfolding plain
plain-capped t mode lane b a = capped (plain_row t mode lane) b (row_period_lem t mode lane) t.height a

-- the notes of a lookup, and of the visible tile's first 256 rows, are those of the visible picture
module _ (t : Tile) (mode lane : ℕ) (b s u : List ℕ) (z : s ≡ replicate 4096 0) where
  pub lookup_notes : flag t mode ≡ true → u ≡ noted s (trail (lookup t mode lane) b) → Notes u (trail (visible_picture t mode lane) b)
  unfolding visible_picture
  lookup_notes f e = rw (visible_picture, f, e, z) (notes_of (trail (lookup t mode lane) b))

  pub plain_notes : (v : Tile) → v ≡ visible t → flag t mode ≡ false
      → u ≡ noted s (trail (up_to (min v.height 256) (plain_row v mode lane)) b) → Notes u (trail (visible_picture t mode lane) b)
  unfolding visible_picture
  plain_notes v w f e =
      rw (visible_picture, f, e, z, ← w)
      (notes_same _ _ _ (plain-capped v mode lane b) (notes_of (trail (up_to (min v.height 256) (plain_row v mode lane)) b)))
