-- Laws of noted addresses: they are noted list after list; and notes of what one direct texel reads, by its pair.
use mathlib.Core.Path.{◌≡◌, refl, ap, ◌∙◌}
use mathlib.Core.Bool.{Bool, true, false, cond, ◌||◌}
use mathlib.Core.List.{List, [], ◌∷◌, ◌++◌}
use Prim.Native.Nat.{ℕ, ◌+◌, ◌*◌, ◌%◌, ◌<◌, ◌≤◌}
use native.Mathlib.Omega.{arith}
use native.Mathlib.Decide.{ℕ_discrete, dec_lt}
use lib.Dec.{eqb}
use lib.ListN.{length, get_or, set, replicate, length-set, get_or-replicate, length-replicate, get_or-eq_default}
use lib.Seq.{get_or-set_same, get_or-set_other}
use borrow.Author.Tests.{lt-ltb, le-ltb, eq-eqb, ne_eqb}
use Rattle.rules.specs.Base.{one, mem}
use Rattle.rules.specs.Texdec.{accepted_direct, format_of}
use Rattle.rules.specs.Sampling.{is_rgba32}
use Rattle.rules.specs.Reading.{Reading, trail, up_to}
use Rattle.rules.specs.Tile.{Tile}
use Rattle.rules.specs.Picture.{swap_odd, direct, paletted, texel}
use Rattle.key.specs.Notes.{noted, Notes}
use Rattle.key.specs.Words.{ask_one}
use Rattle.rules.proofs.Formats.{reads_by, direct-trail, texel-tlut, texel-direct}
use Rattle.rules.proofs.Readings.{trail_more}

pub noted-append : (s l m : List ℕ) → noted s (l ++ m) ≡ noted (noted s l) m
unfolding noted
noted-append s [] m = refl
noted-append s (a ∷ l) m = noted-append (set s a 1) l m

pub length-noted : (s l : List ℕ) → length (noted s l) ≡ length s
unfolding noted
length-noted s [] = refl
length-noted s (a ∷ l) = length-noted (set s a 1) l ∙ length-set s a 1

-- one reading more of a row of them
pub noted_more : (s : List ℕ) (f : ℕ → Reading) (b : List ℕ) (n : ℕ)
    → noted s (trail (up_to (n + 1) f) b) ≡ noted (noted s (trail (up_to n f) b)) (trail (f n) b)
noted_more s f b n = ap (noted s) (trail_more f b n) ∙ noted-append s (trail (up_to n f) b) (trail (f n) b)

pub noted_step : (s t u : List ℕ) (f : ℕ → Reading) (b : List ℕ) (n : ℕ) → t ≡ noted s (trail (up_to n f) b) → u ≡ noted t (trail (f n) b)
    → u ≡ noted s (trail (up_to (n + 1) f) b)
noted_step s t u f b n e g = rw noted_more (g ∙ rw e)

pub noted_one : (s : List ℕ) (a : ℕ) (b : List ℕ) → set s a 1 ≡ noted s (trail (ask_one a) b)
unfolding noted trail
noted_one s a b = refl

pub noted_none : (s : List ℕ) (f : ℕ → Reading) (b : List ℕ) → s ≡ noted s (trail (up_to 0 f) b)
unfolding noted trail up_to
noted_none s f b = refl

-- a loop that notes one reading after another
pub ruleset walked = (noted_none, noted_step, noted_one)

-- what is noted of a direct texel, by the number of its bytes
module _ (s : List ℕ) (fmt siz base : ℕ) (odd : Bool) (rel p q : ℕ) (pair : accepted_direct fmt siz ≡ true)
    (first : p ≡ base + swap_odd odd rel) (second : q ≡ base + swap_odd odd (rel + 1)) where
  pub four-noted : (t u : List ℕ) → is_rgba32 fmt siz ≡ true → t ≡ noted s (p % 2048 ∷ q % 2048 ∷ [])
      → u ≡ noted t ((p % 2048 + 2048) ∷ (q % 2048 + 2048) ∷ []) → (palette x : ℕ) (bank : List ℕ)
      → u ≡ noted s (trail (direct (format_of fmt siz) base palette odd rel x) bank)
  unfolding noted reads_by
  four-noted t u r e f palette x bank = rw (direct-trail fmt siz base palette odd rel x bank pair, r, f, e, first, second)

  pub one-noted : is_rgba32 fmt siz ≡ false → siz < 2 → (palette x : ℕ) (bank : List ℕ)
      → set s (p % 4096) 1 ≡ noted s (trail (direct (format_of fmt siz) base palette odd rel x) bank)
  unfolding noted reads_by
  one-noted r h palette x bank = rw (direct-trail fmt siz base palette odd rel x bank pair, r, lt-ltb siz 2 h, first)

  pub two-noted : (t : List ℕ) → is_rgba32 fmt siz ≡ false → 2 ≤ siz → t ≡ noted s (p % 4096 ∷ q % 4096 ∷ [])
      → (palette x : ℕ) (bank : List ℕ) → t ≡ noted s (trail (direct (format_of fmt siz) base palette odd rel x) bank)
  unfolding noted reads_by
  two-noted t r h e palette x bank = rw (direct-trail fmt siz base palette odd rel x bank pair, r, le-ltb siz 2 h, e, first, second)

-- a texel by its mode
pub noted_by_table : (s u : List ℕ) (t : Tile) (mode lane : ℕ) (odd : Bool) (rel x : ℕ) (b : List ℕ) → 2 ≤ mode
    → u ≡ noted s (trail (paletted t mode lane odd rel x) b) → u ≡ noted s (trail (texel t mode lane odd rel x) b)
noted_by_table s u t mode lane odd rel x b h e = rw (texel-tlut t mode lane odd rel x h) e

pub noted_direct : (s u : List ℕ) (t : Tile) (mode lane : ℕ) (odd : Bool) (rel x : ℕ) (b : List ℕ) → mode < 2
    → u ≡ noted s (trail (direct (format_of t.fmt t.siz) (8 * t.tmem_addr) t.palette odd rel x) b)
    → u ≡ noted s (trail (texel t mode lane odd rel x) b)
noted_direct s u t mode lane odd rel x b h e = rw (texel-direct t mode lane odd rel x h) e

pub note_at : (s l : List ℕ) (a : ℕ) → a < length s → get_or (noted s l) a 0 ≡ cond (mem a l) 1 (get_or s a 0)
unfolding noted mem
note_at s [] a h = refl
note_at s (b ∷ l) a h = note_at (set s b 1) l a (rw length-set h) ∙ go (ℕ_discrete a b)
  where
    again : (t : Bool) → ◌≡◌ {A = ℕ} (cond t 1 1) 1
    again true = refl
    again false = refl

    go : Dec (a ≡ b) → cond (mem a l) 1 (get_or (set s b 1) a 0) ≡ cond (eqb a b || mem a l) 1 (get_or s a 0)
    go (yes e) =
        let q : b < length s = omega arith in
        rw (eq-eqb a b e, e, get_or-set_same s b 1 0 q) (again (mem b l))
    go (no e) = rw (ne_eqb a b e, get_or-set_other s b a 1 0 e)

-- from none on, the notes are those of the list
pub notes_of : (l : List ℕ) → Notes (noted (replicate 4096 0) l) l
unfolding Notes
notes_of l a h =
    note_at (replicate 4096 0) l a (rw (length-replicate {A = ℕ} 4096 0) h) ∙ ap (cond (mem a l) 1) (get_or-replicate 4096 a 0 0 h)

-- notes of a list are notes of any other with the same addresses
pub notes_same : (seen l m : List ℕ) → ((a : ℕ) → mem a l ≡ mem a m) → Notes seen l → Notes seen m
unfolding Notes
notes_same seen l m e n a h = n a h ∙ ap one (e a)

-- a note is 0 or 1
pub note_small : (seen l : List ℕ) → length seen ≡ 4096 → Notes seen l → (i : ℕ) → get_or seen i 0 ≤ 1
unfolding Notes
note_small seen l n h i = go (dec_lt i 4096)
  where
    small : (b : Bool) → one b ≤ 1
    small true = omega arith
    small false = omega arith

    go : Dec (i < 4096) → get_or seen i 0 ≤ 1
    go (yes p) = rw (h i p) (small (mem i l))
    go (no p) = let past : length seen ≤ i = omega arith in rw (get_or-eq_default seen 0 past) (omega arith)
