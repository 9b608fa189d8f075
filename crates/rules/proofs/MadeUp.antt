-- What a load makes up, document 02's item 2: it is at most the count, and 0 where every place is inside the source; the bank is that of
-- the source padded with zeros, and what is made up was asked of the padding; words and rows add up.
use mathlib.Core.Path.{◌≡◌, refl, ap, sym, ◌∙◌}
use mathlib.Core.Bool.{Bool, true, false, ◌&&◌, ◌||◌, true≢false}
use mathlib.Core.List.{List, [], ◌∷◌, ◌++◌}
use Prim.Native.Nat.{ℕ, zero, suc, ◌+◌, ◌*◌, ◌/◌, ◌%◌, ◌≤◌, ◌<◌, ◌^◌}
use native.Mathlib.Nat.{add_assoc, zero-add}
use native.Mathlib.Omega.{arith}
use native.Mathlib.Decide.{dec_lt}
use lib.Dec.{eqb, ltb, leb}
use lib.ListN.{length, get_or, set, replicate}
use borrow.Author.Tests.{le-leb, lt-leb, lt-ltb, le-ltb}
use Rattle.rules.specs.Base.{one, tab, tab_from, concat, any, how_many}
use Rattle.rules.specs.Refusal.{Test, first, settle, call_or}
use Rattle.rules.specs.Calls.{left_by, loaded}
use Rattle.rules.specs.Load.{Store, store, LoadTile, image_tile, split_stores, whole_stores, word_stores, word_columns, block_stores}
use Rattle.rules.specs.Load.{tile_row, tile_stores, advance, steps, hardware_stores, entry_stores, entry_row, row_stores, stored}
use Rattle.rules.specs.Load.{following, Reason, made_up, word_made_up}
use Rattle.rules.proofs.Loads.{split_by, either_shape}

-- of how many in a list f holds
module _ {A : Type 0} (f : A → Bool) where
  pub how_many-append : (l m : List A) → how_many f (l ++ m) ≡ how_many f l + how_many f m
  unfolding how_many
  how_many-append [] m = sym (zero-add (how_many f m))
  how_many-append (x ∷ l) m =
      ap (λ k. one (f x) + k) (how_many-append l m) ∙ sym (add_assoc (one (f x)) (how_many f l) (how_many f m))

  how_many_within : (l : List A) → how_many f l ≤ length l
  unfolding how_many
  how_many_within [] = omega arith
  how_many_within (x ∷ l) = go (f x) (how_many_within l)
    where
      go : (b : Bool) → how_many f l ≤ length l → one b + how_many f l ≤ suc (length l)
      go true h = omega (arith, h)
      go false h = omega (arith, h)

  none_then_zero : (l : List A) → any f l ≡ false → how_many f l ≡ 0
  unfolding how_many any
  none_then_zero [] h = refl
  none_then_zero (x ∷ l) h = go (f x) h (none_then_zero l)
    where
      go : (b : Bool) → (b || any f l) ≡ false → (any f l ≡ false → how_many f l ≡ 0) → one b + how_many f l ≡ 0
      go true e ih = absurd (true≢false e)
      go false e ih = ap (λ k. 0 + k) (ih e)

  zero_then_none : (l : List A) → how_many f l ≡ 0 → any f l ≡ false
  unfolding how_many any
  zero_then_none [] h = refl
  zero_then_none (x ∷ l) h = go (f x) h (zero_then_none l)
    where
      go : (b : Bool) → one b + how_many f l ≡ 0 → (how_many f l ≡ 0 → any f l ≡ false) → (b || any f l) ≡ false
      go true e ih = absurd (omega (arith, e))
      go false e ih = ih (omega (arith, e))

-- a store's place is at or past the length
abbrev pub past : ℕ → Store → Bool
past size s = leb size s.from

-- made up is at most the count
pub made_up_within : (size : ℕ) (l : List Store) → made_up size l ≤ length l
unfolding made_up
made_up_within size l = how_many_within (past size) l

-- and so a load's second number is at most its first, refused or not
pub load_within : (tests : List Test) (l : List Store) (bank map reasons src : List ℕ) (why : Reason) (last : ℕ)
    → let o = loaded tests l bank map reasons src why last in get_or o.numbers 1 0 ≤ get_or o.numbers 0 0
unfolding call_or settle
load_within tests l bank map reasons src why last = go (first tests)
  where
    answers : ℕ → List ℕ
    answers n =
        (settle n (length l ∷ made_up (length src) l ∷ following last ∷ []) (0 ∷ 0 ∷ last ∷ [])
        (left_by src l (following last) why bank map reasons) (bank ∷ map ∷ reasons ∷ [])).numbers

    go : (n : ℕ) → get_or (answers n) 1 0 ≤ get_or (answers n) 0 0
    go zero = made_up_within (length src) l
    go (suc n) = omega arith

-- it is 0 exactly where every place is inside the source
pub all_inside : (size : ℕ) (l : List Store) → any (past size) l ≡ false → made_up size l ≡ 0
unfolding made_up
all_inside size l h = none_then_zero (past size) l h

pub none_past : (size : ℕ) (l : List Store) → made_up size l ≡ 0 → any (past size) l ≡ false
unfolding made_up
none_past size l h = zero_then_none (past size) l h

-- The bank is that of the source padded with zeros to any greater length.
padded_byte : (src : List ℕ) (n i : ℕ) → get_or (src ++ replicate n 0) i 0 ≡ get_or src i 0
padded_byte [] zero i = refl
padded_byte [] (suc n) zero = refl
padded_byte [] (suc n) (suc i) = padded_byte [] n i
padded_byte (x ∷ src) n zero = refl
padded_byte (x ∷ src) n (suc i) = padded_byte src n i

pub padded : (src : List ℕ) (n : ℕ) (l : List Store) (bank : List ℕ) → stored (src ++ replicate n 0) l bank ≡ stored src l bank
unfolding stored
padded src n [] bank = refl
padded src n (s ∷ l) bank =
    padded src n l _ ∙ ap (λ b. stored src l (set bank s.at b)) (padded_byte src n s.from)

-- and so is what a load leaves, where neither is refused
pub padded_load : (tests tests' : List Test) (l : List Store) (bank map reasons src : List ℕ) (why : Reason) (last n : ℕ)
    → first tests ≡ 0
    → first tests' ≡ 0
    → (loaded tests l bank map reasons (src ++ replicate n 0) why last).buffers ≡ (loaded tests' l bank map reasons src why last).buffers
unfolding call_or settle
padded_load tests tests' l bank map reasons src why last n z z' = rw (z, z', padded src n l bank)

-- a store takes its byte from the padding of a source of `size` bytes to n more
abbrev pub in_padding : ℕ → ℕ → Store → Bool
in_padding size n s = past size s && ltb s.from (size + n)

-- What is made up was asked of the padding, or lies past that too.
pub asked_of_padding : (size n : ℕ) (l : List Store) → made_up size l ≡ how_many (in_padding size n) l + made_up (size + n) l
unfolding made_up how_many
asked_of_padding size n [] = refl
asked_of_padding size n (s ∷ l) =
    let p = s.from in
    let own : one (leb size p) ≡ one (leb size p && ltb p (size + n)) + one (leb (size + n) p) = go (dec_lt p size) (dec_lt p (size + n))
    in
    ap (λ k. one (leb size p) + k) (asked_of_padding size n l) ∙ omega (arith, own)
  where
    go : {p : ℕ} → Dec (p < size) → Dec (p < size + n) → one (leb size p) ≡ one (leb size p && ltb p (size + n)) + one (leb (size + n) p)
    go {p} (yes a) _ = rw (lt-leb size p a, lt-leb (size + n) p (omega (arith, a)))
    go {p} (no a) (yes b) = rw (le-leb size p (omega (arith, a)), lt-ltb p (size + n) b, lt-leb (size + n) p b)
    go {p} (no a) (no b) =
        rw (le-leb size p (omega (arith, a)), le-ltb p (size + n) (omega (arith, b)), le-leb (size + n) p (omega (arith, b)))

-- "the block, tile and TLUT loads shall add these up"
unfoldable pub total : List ℕ → ℕ
total [] = 0
total (n ∷ l) = n + total l

pub made_up-append : (size : ℕ) (l m : List Store) → made_up size (l ++ m) ≡ made_up size l + made_up size m
unfolding made_up
made_up-append size l m = how_many-append (past size) l m

adds_from : (size i n : ℕ) (f : ℕ → List Store) → made_up size (concat (tab_from i n f)) ≡ total (tab_from i n (λ k. made_up size (f k)))
unfolding tab_from concat total made_up how_many
adds_from size i zero f = refl
adds_from size i (suc n) f =
    made_up-append size (f i) (concat (tab_from (suc i) n f)) ∙ ap (λ k. made_up size (f i) + k) (adds_from size (suc i) n f)

-- lists one after the other, where each one's is known
sums : (size n : ℕ) (f : ℕ → List Store) {g : ℕ → ℕ} → ((k : ℕ) → made_up size (f k) ≡ g k)
    → made_up size (concat (tab n f)) ≡ total (tab n g)
unfolding tab
sums size n f e = adds_from size 0 n f ∙ ap (λ h. total (tab_from 0 n h)) (λ i k. e k i)

-- A word's stores take each of its eight bytes once. Where they do not take them in order:
halves_swapped : (p : ℕ → ℕ) → p 4 + (p 5 + (p 6 + (p 7 + (p 0 + (p 1 + (p 2 + (p 3 + 0)))))))
    ≡ p 0 + (p 1 + (p 2 + (p 3 + (p 4 + (p 5 + (p 6 + (p 7 + 0)))))))
halves_swapped p = omega arith

pairs_split : (p : ℕ → ℕ) → p 0 + (p 2 + (p 1 + (p 3 + (p 4 + (p 6 + (p 5 + (p 7 + 0)))))))
    ≡ p 0 + (p 1 + (p 2 + (p 3 + (p 4 + (p 5 + (p 6 + (p 7 + 0)))))))
pairs_split p = omega arith

whole_made_up : (size : ℕ) (l : List ℕ) (high o : ℕ) (from : ℕ → ℕ) → o < 2
    → made_up size (whole_stores l high (o * 2) from) ≡ word_made_up size from
unfolding whole_stores concat tab tab_from made_up how_many word_made_up
whole_made_up size l high zero from h = refl
whole_made_up size l high (suc zero) from h = halves_swapped (λ k. one (leb size (from k)))
whole_made_up size l high (suc (suc o)) from h = absurd (omega arith)

split_made_up : (size : ℕ) (t : LoadTile) (l : List ℕ) (start : ℕ) (from : ℕ → ℕ)
    → made_up size (split_stores t l start from) ≡ word_made_up size from
unfolding split_stores concat tab tab_from made_up how_many word_made_up
split_made_up size t l start from = go (eqb t.fmt 1)
  where
    go : (yuv : Bool) → made_up size (split_by yuv l start from) ≡ word_made_up size from
    go true = refl
    go false = pairs_split (λ k. one (leb size (from k)))

pub word_made_up_lem : (size : ℕ) (t : LoadTile) (s row : ℕ) (from : ℕ → ℕ) → made_up size (word_stores t s row from) ≡ word_made_up size
    from
word_made_up_lem size t s row from =
    either_shape t s row from (λ l. made_up size l ≡ word_made_up size from) (λ l start. split_made_up size t l start from)
    (λ l high. whole_made_up size l high (row % 2) from (omega arith))

-- so do an entry's, whose places alternate
pub entry-made_up : (size at source : ℕ)
    → made_up size (tab 8 (λ k. store (at + k) (source + k % 2))) ≡ word_made_up size (λ k. source + k % 2)
unfolding made_up how_many word_made_up tab tab_from
entry-made_up size at source = refl

-- What each load adds up: its words, of a tile row by row; of a lookup table its steps, or its entries row by row.
pub block_adds : (size : ℕ) (t : LoadTile) (image dxt words : ℕ)
    → made_up size (block_stores t image dxt words) ≡ total (tab words (λ w. word_made_up size (λ k. 8 * w + k)))
unfolding block_stores
block_adds size t image dxt words =
    sums size words _ (λ w. word_made_up_lem size (image_tile image t) (w * word_columns image) (w * dxt / 2048) (λ k. 8 * w + k))

pub tile_adds : (size : ℕ) (t : LoadTile) (image rows words stride : ℕ)
    → made_up size (tile_stores t image rows words stride)
    ≡ total (tab rows (λ row. total (tab words (λ w. word_made_up size (λ k. row * stride + 8 * w + k)))))
unfolding tile_stores tile_row
tile_adds size t image rows words stride =
    sums size rows _
    (λ row. sums size words _
    (λ w. word_made_up_lem size (image_tile image t) (w * word_columns image) row (λ k. row * stride + 8 * w + k)))

pub hardware_adds : (size : ℕ) (t : LoadTile) (image count : ℕ)
    → made_up size (hardware_stores t image count)
    ≡ total (tab (steps image count) (λ i. word_made_up size (λ k. i * advance image + k % 2)))
unfolding hardware_stores
hardware_adds size t image count =
    sums size (steps image count) _ (λ i. word_made_up_lem size t (i * (64 / 2 ^ image)) 0 (λ k. i * advance image + k % 2))

pub rows_add : (size : ℕ) (t : LoadTile) (count rows stride : ℕ)
    → made_up size (row_stores t count rows stride)
    ≡ total (tab rows (λ r. total (tab count (λ i. word_made_up size (λ k. r * stride + 2 * i + k % 2)))))
unfolding row_stores entry_row entry_stores
rows_add size t count rows stride =
    sums size rows _ (λ r. sums size count _ (λ i. entry-made_up size _ (r * stride + 2 * i)))
