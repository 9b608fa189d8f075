-- The whole words of a row of direct texels: what they read is what the row's texels read, in another order.
use mathlib.Core.Path.{◌≡◌, refl, ap, sym, ◌∙◌}
use mathlib.Core.Bool.{Bool, true, false, cond, ◌||◌, or-true, and-false}
use mathlib.Core.List.{List, []}
use mathlib.Core.Logic.{◌⊎◌, inl, inr, ⊎_elim}
use Prim.Native.Nat.{ℕ, ◌+◌, ◌*◌, ◌/◌, ◌%◌, ◌<◌}
use native.Mathlib.Omega.{arith}
use native.Mathlib.Decide.{ℕ_discrete}
use native.Mathlib.Nat.{mul_left_comm}
use lib.Bits.{bit_xor, xor_block, xor_zero_r}
use lib.Dec.{eqb}
use lib.ListN.{length, get_or}
use lib.Seq.{ext_get_or}
use borrow.Author.Tests.{eq-eqb, ne_eqb, le-ltb, lt-leb}
use Rattle.rules.specs.Base.{odd, mem}
use Rattle.rules.specs.Reading.{Reading, trail, and_then, up_to}
use Rattle.rules.specs.Tile.{Tile}
use Rattle.rules.specs.Texdec.{accepted_direct, accepted}
use Rattle.rules.specs.Sampling.{is_rgba32}
use Rattle.rules.specs.Picture.{swap_odd, address, column, row_start, texel}
use Rattle.key.specs.Notes.{noted}
use Rattle.key.specs.Words.{word_texels, ask_one, word_reading, direct_word, direct_words}
use Rattle.rules.proofs.Computed.{agree_below}
use Rattle.rules.proofs.Formats.{reads_by, pair_reads, direct-trail, accepted-direct, texel-direct}
use Rattle.rules.proofs.Readings.{trail_then}
use Rattle.rules.proofs.Tables.{mem_head, mem-tail, mem-append}
use Rattle.key.proofs.Steps.{place_small}
use Rattle.key.proofs.Notes.{walked, note_at, length-noted, noted-append}
use Rattle.key.proofs.Flips.{mem_cases, mem_none}
use Rattle.key.proofs.Lift.{Place, found}
use Rattle.key.proofs.Period.{covered}

-- notes of two lists with the same addresses are the same
pub noted-same : (s l m : List ℕ) → ((a : ℕ) → mem a l ≡ mem a m) → noted s l ≡ noted s m
noted-same s l m e =
    ext_get_or 0 (noted s l) (noted s m) (length-noted s l ∙ sym (length-noted s m))
    (λ a h.
    let k : a < length s = rw (length-noted s l) at h in
    note_at s l a k ∙ ap (λ t. cond t 1 (get_or s a 0)) (e a) ∙ sym (note_at s m a k))

pub same_yes : (p q : Bool) → (p ≡ true → q ≡ true) → (q ≡ true → p ≡ true) → p ≡ q
same_yes true q f g = sym (f refl)
same_yes false true f g = g refl
same_yes false false f g = refl

-- one reading is noted after another
pub then_noted : (s t u : List ℕ) (p q : Reading) (b : List ℕ) → t ≡ noted s (trail p b) → u ≡ noted t (trail q b)
    → u ≡ noted s (trail (and_then p q) b)
then_noted s t u p q b e f =
    f ∙ rw e (sym (noted-append s (trail p b) (trail q b)) ∙ ap (noted s) (sym (trail_then p q b)))

-- a loop over the places of a word, and what follows it
pub ruleset stepped = (place_small, walked, then_noted)

-- the words of both halves, and one word
pub both_noted : (s t u : List ℕ) (both : Bool) (word : ℕ) → both ≡ true → t ≡ noted s (trail (word_reading 1 (word % 256)) [])
    → u ≡ noted t (trail (word_reading 1 (word % 256 + 256)) []) → u ≡ noted s (trail (direct_word both word) [])
unfolding direct_word
both_noted s t u both word y e f = rw y (then_noted s t u (word_reading 1 (word % 256)) (word_reading 1 (word % 256 + 256)) [] e f)

pub word_noted : (s u : List ℕ) (both : Bool) (word : ℕ) → both ≡ false → u ≡ noted s (trail (word_reading 1 (word % 512)) [])
    → u ≡ noted s (trail (direct_word both word) [])
unfolding direct_word
word_noted s u both word n e = rw n e

-- a place in a word, where the halves change places on odd rows
pub turned : Bool → ℕ → ℕ
turned true r = (r + 4) % 8
turned false r = r

pub turned_lt : (o : Bool) (r : ℕ) → r < 8 → turned o r < 8
unfolding turned
turned_lt true r h = omega arith
turned_lt false r h = h

pub turned_even : (o : Bool) (r : ℕ) → r % 2 ≡ 0 → turned o r % 2 ≡ 0
unfolding turned
turned_even true r h = omega arith
turned_even false r h = h

pub turned_twice : (o : Bool) (r : ℕ) → r < 8 → turned o (turned o r) ≡ r
unfolding turned
turned_twice true r h = omega arith
turned_twice false r h = refl

pub swap_word : (o : Bool) (q r : ℕ) → r < 8 → swap_odd o (8 * q + r) ≡ 8 * q + turned o r
unfolding turned
swap_word false q r h = refl
swap_word true q r h =
    let e : 8 * q + r ≡ q * 8 + r = omega arith in
    let x : bit_xor r 4 ≡ (r + 4) % 8 = agree_below 8 (λ k. bit_xor k 4) (λ k. (k + 4) % 8) tt r h in
    let b : bit_xor (q * 8 + r) 4 ≡ bit_xor q 0 * 8 + bit_xor r 4 = xor_block 3 q 0 r 4 (omega arith) (omega arith) in
    ap (λ n. bit_xor n 4) e ∙ b ∙ rw (xor_zero_r q, x) (omega arith)

-- an address is in a list of one, and in a word
pub mem-one : (a x : ℕ) → mem a (trail (ask_one x) []) ≡ true → a ≡ x
unfolding trail
mem-one a x h = ⊎_elim (λ e. e) (λ q. absurd (mem_none a q)) (mem_cases a x [] h)

pub one-mem : (a x : ℕ) → a ≡ x → mem a (trail (ask_one x) []) ≡ true
unfolding trail mem
one-mem a x e = rw (eq-eqb a x e)

pub in_word : (a at : ℕ) → mem a (trail (word_reading 1 at) []) ≡ true → a / 8 ≡ at
unfolding word_reading
in_word a at h =
    let p = found (λ k. ask_one (8 * at + 1 * k)) [] 8 a h in
    let e : a ≡ 8 * at + 1 * p.at = mem-one a _ p.reads in
    omega (arith, p.inside)

pub word_in : (a at : ℕ) → a / 8 ≡ at → mem a (trail (word_reading 1 at) []) ≡ true
unfolding word_reading
word_in a at h =
    covered (λ k. ask_one (8 * at + 1 * k)) [] 8 (a % 8) a (omega arith) (one-mem a _ (omega arith))

-- where byte c of a row stands, before it wraps
pub at_byte : (o : Bool) (tmem s w r : ℕ) → r < 8 → 8 * tmem + swap_odd o (8 * s + (8 * w + r)) ≡ 8 * (tmem + s + w) + turned o r
at_byte o tmem s w r h =
    let e : 8 * s + (8 * w + r) ≡ 8 * (s + w) + r = omega arith in
    rw (e, swap_word o (s + w) r h) (omega arith)

-- a is read as byte c of a row: in the bank, or in one of its halves
abbrev pub Hit : Bool → ℕ → Bool → ℕ → ℕ → ℕ → Type 0
Hit false tmem o s a c = a ≡ address 4096 (8 * tmem) o (8 * s + c)
Hit true tmem o s a c =
    (a ≡ address 2048 (8 * tmem) o (8 * s + c)) ⊎ (a ≡ address 2048 (8 * tmem) o (8 * s + c) + 2048)

pub record HitBelow (both : Bool) (tmem : ℕ) (o : Bool) (s a n : ℕ) : Type 0 where
  pub byte : ℕ
  pub inside : byte < n
  pub hits : Hit both tmem o s a byte

-- one reading or another after it reads a
pub then_cases : (p q : Reading) (b : List ℕ) (a : ℕ) → mem a (trail (and_then p q) b) ≡ true
    → (mem a (trail p b) ≡ true) ⊎ (mem a (trail q b) ≡ true)
then_cases p q b a h = go (mem a (trail p b)) refl (sym (mem-append a (trail p b) (trail q b)) ∙ (rw (trail_then p q b) at h))
  where
    go : (t : Bool) → mem a (trail p b) ≡ t → (t || mem a (trail q b)) ≡ true → (mem a (trail p b) ≡ true) ⊎ (mem a (trail q b) ≡ true)
    go true e h' = inl e
    go false e h' = inr h'

pub then_mem : (p q : Reading) (b : List ℕ) (a : ℕ) → (mem a (trail p b) ≡ true) ⊎ (mem a (trail q b) ≡ true)
    → mem a (trail (and_then p q) b) ≡ true
then_mem p q b a c =
    rw (trail_then p q b, mem-append a (trail p b) (trail q b))
    (⊎_elim (λ h. rw h) (λ h. rw h (or-true (mem a (trail p b)))) c)

module _ (tmem : ℕ) (o : Bool) (s a : ℕ) where
  -- a word has the bytes that its row reads there, and no others
  word_hits : (both : Bool) (w : ℕ) → mem a (trail (direct_word both (tmem + s + w)) []) ≡ true
      → Hit both tmem o s a (8 * w + turned o (a % 8))
  unfolding direct_word
  word_hits both w h =
      let l = at_byte o tmem s w (turned o (a % 8)) (turned_lt o (a % 8) (omega arith)) in
      let k = turned_twice o (a % 8) (omega arith) in
      go both h l k
    where
      go : (both : Bool) → mem a (trail (direct_word both (tmem + s + w)) []) ≡ true
          → 8 * tmem + swap_odd o (8 * s + (8 * w + turned o (a % 8))) ≡ 8 * (tmem + s + w) + turned o (turned o (a % 8))
          → turned o (turned o (a % 8)) ≡ a % 8 → Hit both tmem o s a (8 * w + turned o (a % 8))
      go false h l k = omega (arith, in_word a _ h)
      go true h l k =
          ⊎_elim (λ m. inl (omega (arith, in_word a _ m))) (λ m. inr (omega (arith, in_word a _ m)))
          (then_cases (word_reading 1 ((tmem + s + w) % 256)) (word_reading 1 ((tmem + s + w) % 256 + 256)) [] a h)

  hits_word : (both : Bool) (w r : ℕ) → r < 8 → Hit both tmem o s a (8 * w + r) → mem a (trail (direct_word both (tmem + s + w)) []) ≡ true
  unfolding direct_word
  hits_word false w r k h = word_in a _ (omega (arith, h, at_byte o tmem s w r k, turned_lt o r k))
  hits_word true w r k h =
      let l = at_byte o tmem s w r k in
      let t = turned_lt o r k in
      then_mem (word_reading 1 ((tmem + s + w) % 256)) (word_reading 1 ((tmem + s + w) % 256 + 256)) [] a
      (⊎_elim (λ e. inl (word_in a _ (omega arith))) (λ e. inr (word_in a _ (omega arith))) h)

  module _ (both : Bool) (n texels : ℕ) (f : ℕ → Reading) (b : List ℕ)
      (of_texel : (x : ℕ) → x < texels → mem a (trail (f x) b) ≡ true → HitBelow both tmem o s a (8 * n))
      (of_byte : (c : ℕ) → c < 8 * n → Hit both tmem o s a c → Place f b texels a) where
    row_of_words : mem a (trail (direct_words both (tmem + s) n) []) ≡ mem a (trail (up_to texels f) b)
    unfolding direct_words
    row_of_words = same_yes _ _ to from
      where
        to : mem a (trail (up_to n (λ w. direct_word both (tmem + s + w))) []) ≡ true → mem a (trail (up_to texels f) b) ≡ true
        to h =
            let p = found (λ w. direct_word both (tmem + s + w)) [] n a h in
            let t = of_byte (8 * p.at + turned o (a % 8)) (omega (arith, p.inside, turned_lt o (a % 8) (omega arith)))
            (word_hits both p.at p.reads) in
            covered f b texels t.at a t.inside t.reads

        from : mem a (trail (up_to texels f) b) ≡ true → mem a (trail (up_to n (λ w. direct_word both (tmem + s + w))) []) ≡ true
        from h =
            let p = found f b texels a h in
            let t = of_texel p.at p.inside p.reads in
            let parts : t.byte ≡ 8 * (t.byte / 8) + t.byte % 8 = omega arith in
            covered (λ w. direct_word both (tmem + s + w)) [] n (t.byte / 8) a (omega (arith, t.inside))
            (hits_word both (t.byte / 8) (t.byte % 8) (omega arith) (rw parts at t.hits))

  -- a texel of one byte hits it, and one of two hits both
  hit_one : (c : ℕ) → mem a (reads_by 1 (8 * tmem) o (8 * s + c)) ≡ true → Hit false tmem o s a c
  unfolding reads_by
  hit_one c m = ⊎_elim (λ e. e) (λ q. absurd (mem_none a q)) (mem_cases a _ [] m)

  one_hit : (c : ℕ) → Hit false tmem o s a c → mem a (reads_by 1 (8 * tmem) o (8 * s + c)) ≡ true
  unfolding reads_by
  one_hit c e = rw (← e) (mem_head a [])

  -- the bytes of a texel of two, in the bank or in both halves
  pair_hits : (both : Bool) (x : ℕ) → mem a (reads_by (cond both 4 2) (8 * tmem) o (8 * s + 2 * x)) ≡ true
      → Hit both tmem o s a (2 * x) ⊎ Hit both tmem o s a (2 * x + 1)
  unfolding reads_by
  pair_hits false x m =
      let next : 8 * s + 2 * x + 1 ≡ 8 * s + (2 * x + 1) = omega arith in
      ⊎_elim (λ e. inl e) (λ m. ⊎_elim (λ e. inr (rw next at e)) (λ q. absurd (mem_none a q)) (mem_cases a _ [] m)) (mem_cases a _ _ m)
  pair_hits true x m =
      let next : 8 * s + 2 * x + 1 ≡ 8 * s + (2 * x + 1) = omega arith in
      ⊎_elim (λ e. inl (inl e)) (λ m.
      ⊎_elim (λ e. inr (inl (rw next at e))) (λ m.
      ⊎_elim (λ e. inl (inr e)) (λ m.
      ⊎_elim (λ e. inr (inr (rw next at e))) (λ q. absurd (mem_none a q))
      (mem_cases a _ [] m))
      (mem_cases a _ _ m))
      (mem_cases a _ _ m))
      (mem_cases a _ _ m)

  hits_pair : (both : Bool) (x : ℕ) → Hit both tmem o s a (2 * x) ⊎ Hit both tmem o s a (2 * x + 1)
      → mem a (reads_by (cond both 4 2) (8 * tmem) o (8 * s + 2 * x)) ≡ true
  unfolding reads_by
  hits_pair false x h =
      let next : 8 * s + 2 * x + 1 ≡ 8 * s + (2 * x + 1) = omega arith in
      ⊎_elim (λ e. rw (← e) (mem_head a _)) (λ e. mem-tail a _ _ (rw (next, ← e) (mem_head a []))) h
  hits_pair true x h =
      let next : 8 * s + 2 * x + 1 ≡ 8 * s + (2 * x + 1) = omega arith in
      ⊎_elim
      (⊎_elim (λ e. rw (← e) (mem_head a _)) (λ e. mem-tail a _ _ (mem-tail a _ _ (rw (← e) (mem_head a _)))))
      (⊎_elim (λ e. mem-tail a _ _ (rw (next, ← e) (mem_head a _)))
      (λ e. mem-tail a _ _ (mem-tail a _ _ (mem-tail a _ _ (rw (next, ← e) (mem_head a []))))))
      h

-- texel x of a row that starts s words after the tile
abbrev pub row_texel : Tile → ℕ → ℕ → Bool → ℕ → ℕ → Reading
row_texel t mode lane o s x = texel t mode lane o (8 * s + column t mode x) x

module _ (t : Tile) (mode lane : ℕ) (o : Bool) (s n : ℕ) (b : List ℕ) (a : ℕ) (direct_mode : mode < 2)
    (pair : accepted_direct t.fmt t.siz ≡ true) where
  -- the words of the row read a where its texels do
  abbrev SameRow : Type 0
  SameRow =
      mem a (trail (direct_words (is_rgba32 t.fmt t.siz) (t.tmem_addr + s) n) [])
      ≡ mem a (trail (up_to (word_texels t.siz * n) (row_texel t mode lane o s)) b)

  reads_of : (x : ℕ) → trail (row_texel t mode lane o s x) b
      ≡ reads_by (pair_reads t.fmt t.siz) (8 * t.tmem_addr) o (8 * s + column t mode x)
  reads_of x =
      ap (λ r. trail r b) (texel-direct t mode lane o (8 * s + column t mode x) x direct_mode)
      ∙ direct-trail t.fmt t.siz (8 * t.tmem_addr) t.palette o (8 * s + column t mode x) x b pair

  column_of : (x : ℕ) → column t mode x ≡ cond (eqb t.siz 0) (x / 2) (cond (eqb t.siz 1) x (2 * x))
  column_of x = rw (lt-leb 2 mode direct_mode, and-false (eqb t.fmt 1))

  one_byte : (T : ℕ) (pick : ℕ → ℕ) → pair_reads t.fmt t.siz ≡ 1 → is_rgba32 t.fmt t.siz ≡ false → word_texels t.siz ≡ T
      → ((x : ℕ) → x < T * n → column t mode x < 8 * n)
      → ((c : ℕ) → c < 8 * n → (pick c < T * n) × (column t mode (pick c) ≡ c)) → SameRow
  one_byte T pick r f w below back =
      rw (f, w)
      (row_of_words t.tmem_addr o s a false n (T * n) (row_texel t mode lane o s) b
      (λ x l m.
      record {
        byte = column t mode x;
        inside = below x l;
        hits = hit_one t.tmem_addr o s a (column t mode x) (rw (reads_of x, r) at m);
      })
      (λ c l e.
      record {
        at = pick c;
        inside = (back c l).0;
        reads = rw (reads_of (pick c), r, (back c l).1) (one_hit t.tmem_addr o s a c e);
      }))

  two_bytes : (both : Bool) → pair_reads t.fmt t.siz ≡ cond both 4 2 → is_rgba32 t.fmt t.siz ≡ both → word_texels t.siz ≡ 4
      → ((x : ℕ) → column t mode x ≡ 2 * x) → SameRow
  two_bytes both r f w twice =
      rw (f, w)
      (row_of_words t.tmem_addr o s a both n (4 * n) (row_texel t mode lane o s) b
      (λ x l m.
      ⊎_elim (λ e. record { byte = 2 * x; inside = omega arith; hits = e })
      (λ e. record { byte = 2 * x + 1; inside = omega arith; hits = e })
      (pair_hits t.tmem_addr o s a both x (rw (reads_of x, r, twice x) at m)))
      (λ c l e.
      record {
        at = c / 2;
        inside = omega arith;
        reads =
            rw (reads_of (c / 2), r, twice (c / 2)) (hits_pair t.tmem_addr o s a both (c / 2) (half c e (ℕ_discrete (c % 2) 0)));
      }))
    where
      half : (c : ℕ) → Hit both t.tmem_addr o s a c → Dec (c % 2 ≡ 0)
          → Hit both t.tmem_addr o s a (2 * (c / 2)) ⊎ Hit both t.tmem_addr o s a (2 * (c / 2) + 1)
      half c e (yes z) = let k : c ≡ 2 * (c / 2) = omega arith in inl (rw k at e)
      half c e (no z) = let k : c ≡ 2 * (c / 2) + 1 = omega arith in inr (rw k at e)

  -- whatever the pair
  same_row : SameRow
  same_row = go (ℕ_discrete t.siz 0) (ℕ_discrete t.siz 1)
    where
      go : Dec (t.siz ≡ 0) → Dec (t.siz ≡ 1) → SameRow
      go (yes z) d =
          let none : is_rgba32 t.fmt t.siz ≡ false = rw z (and-false (eqb t.fmt 0)) in
          one_byte 16 (λ c. 2 * c) (rw (none, z)) none (rw z)
          (λ x l. rw (column_of x, z) (omega arith)) (λ c l. (omega arith, rw (column_of (2 * c), z) (omega arith)))
      go (no z) (yes d) =
          let none : is_rgba32 t.fmt t.siz ≡ false = rw d (and-false (eqb t.fmt 0)) in
          one_byte 8 (λ c. c) (rw (none, d)) none (rw d)
          (λ x l. rw (column_of x, d) l) (λ c l. (l, rw (column_of c, d)))
      go (no z) (no d) =
          two_bytes (is_rgba32 t.fmt t.siz) (rw (le-ltb t.siz 2 (omega arith))) refl (rw (ne_eqb _ _ z, ne_eqb _ _ d))
          (λ x. column_of x ∙ rw (ne_eqb _ _ z, ne_eqb _ _ d))

-- a row starts at a word
pub start_bytes : (t : Tile) (y : ℕ) → row_start t y ≡ 8 * (y % 256 * t.line)
start_bytes t y = mul_left_comm (y % 256) 8 t.line

pub start_word : (t : Tile) (y : ℕ) → row_start t y / 8 ≡ y % 256 * t.line
start_word t y = omega (arith, start_bytes t y)

-- the words of row y are noted: so are its texels, as many as they have
module _ (t : Tile) (mode lane y words : ℕ) (b seen u : List ℕ) (direct_mode : mode < 2)
    (pair : accepted mode t.fmt t.siz ≡ true) where
  pub row_noted : u ≡ noted seen (trail (direct_words (is_rgba32 t.fmt t.siz) (t.tmem_addr + row_start t y / 8) words) [])
      → u ≡ noted seen (trail (up_to (word_texels t.siz * words) (λ x. texel t mode lane (odd y) (row_start t y + column t mode x) x)) b)
  row_noted e =
      let listed = accepted-direct mode _ _ direct_mode pair in
      e
      ∙ noted-same seen _ _
      (λ a.
      rw (start_word t y, start_bytes t y) (same_row t mode lane (odd y) (y % 256 * t.line) words b a direct_mode listed))
