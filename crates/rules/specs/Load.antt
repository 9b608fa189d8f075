-- What a load stores, in order: "Rules for loads (000)". A load is its list of stores.
use Rattle.std.specs.Prelude.{Bool, false, cond, ◌&&◌, ◌||◌, List, [], ◌∷◌, map, ℕ, ◌+◌, ◌-◌, ◌*◌, ◌/◌, ◌%◌, ◌^◌, eqb, ltb, leb, get_or}
use Rattle.std.specs.Prelude.{set}
use Rattle.std.specs.Int.Bits.{bit_and, bit_xor}
use Rattle.rules.specs.Base.{tab, concat, how_many, stamps}
use Rattle.rules.specs.Tile.{Tile}
use Rattle.rules.specs.Sampling.{is_rgba32}

-- one byte stored: its address, and its place in the source
pub record Store : Type 0 where
  pub at : ℕ
  pub from : ℕ

abbrev pub store : ℕ → ℕ → Store
store a p = record { at = a; from = p }

-- the four fields that a load takes of its tile
pub record LoadTile : Type 0 where
  pub fmt : ℕ
  pub siz : ℕ
  pub line : ℕ
  pub tmem_addr : ℕ

abbrev pub load_tile : Tile → LoadTile
load_tile t = record { fmt = t.fmt; siz = t.siz; line = t.line; tmem_addr = t.tmem_addr }

-- "For image size 0 both use fmt 0 and siz 0 in place of the tile's."
abbrev pub image_tile : ℕ → LoadTile → LoadTile
image_tile image t =
    record {
      fmt = cond (eqb image 0) 0 t.fmt;
      siz = cond (eqb image 0) 0 t.siz;
      line = t.line;
      tmem_addr = t.tmem_addr;
    }

-- "Halfword h is s div 2 if fmt is 1 or siz is 1; else s div 4 if siz is 0; else s; then mod 2,048."
abbrev pub halfword : LoadTile → ℕ → ℕ
halfword t s = cond (eqb t.fmt 1 || eqb t.siz 1) (s / 2) (cond (eqb t.siz 0) (s / 4) s) % 2048

-- "b = (line·t mod 512) + tmem_addr", for row t
abbrev pub base : LoadTile → ℕ → ℕ
base t row = t.line * row % 512 + t.tmem_addr

-- "f = (4b + h) with all bits but 0x7fd cleared"
abbrev pub first_spot : ℕ → ℕ → ℕ
first_spot b h = bit_and (4 * b + h) 0x7fd

-- "o = 2 for odd t, else 0"
abbrev pub odd_spot : ℕ → ℕ
odd_spot row = row % 2 * 2

-- "n = ((f+i) mod 2,048) xor o"
abbrev pub spot : ℕ → ℕ → ℕ → ℕ
spot f o i = bit_xor ((f + i) % 2048) o

-- "place n mod 4 of a list of four holds 2·(n mod 1,024)"
abbrev pub put : List ℕ → ℕ → List ℕ
put l n = set l (n % 4) (2 * (n % 1024))

unfoldable pub list4 : ℕ → ℕ → List ℕ
list4 f o = put (put (put (put (0 ∷ 0 ∷ 0 ∷ 0 ∷ []) (spot f o 0)) (spot f o 1)) (spot f o 2)) (spot f o 3)

-- "fmt 1, or fmt 0 with siz 3": a word goes to both halves of the bank
abbrev pub splits : LoadTile → Bool
splits t = eqb t.fmt 1 || is_rgba32 t.fmt t.siz

-- "The low half receives source bytes 0,2,4,6 (fmt 1) or 0,1,4,5; the same addresses plus 2,048 receive 1,3,5,7 or 2,3,6,7."
abbrev pub low_bytes : LoadTile → List ℕ
low_bytes t = cond (eqb t.fmt 1) (0 ∷ 2 ∷ 4 ∷ 6 ∷ []) (0 ∷ 1 ∷ 4 ∷ 5 ∷ [])

abbrev pub high_bytes : LoadTile → List ℕ
high_bytes t = cond (eqb t.fmt 1) (1 ∷ 3 ∷ 5 ∷ 7 ∷ []) (2 ∷ 3 ∷ 6 ∷ 7 ∷ [])

-- "start at list place (h and 2) xor o, take two places, two bytes each"; "low before high"
abbrev pub split_at : List ℕ → ℕ → ℕ → ℕ
split_at l start i = get_or l (start + i / 2) 0 + i % 2

unfoldable pub split_stores : LoadTile → List ℕ → ℕ → (ℕ → ℕ) → List Store
split_stores t l start from =
    concat (tab 4 (λ i.
    store (split_at l start i) (from (get_or (low_bytes t) i 0))
    ∷ store (split_at l start i + 2048) (from (get_or (high_bytes t) i 0))
    ∷ []))

-- "Otherwise each list place k receives bytes 2·(k xor o) and the next, at its address, plus 2,048 if f has bit 0x400."
abbrev pub upper : ℕ → ℕ
upper f = 2 * bit_and f 0x400

unfoldable pub whole_stores : List ℕ → ℕ → ℕ → (ℕ → ℕ) → List Store
whole_stores l high o from =
    concat (tab 4 (λ k.
    store (get_or l k 0 + high) (from (2 * bit_xor k o))
    ∷ store (get_or l k 0 + high + 1) (from (2 * bit_xor k o + 1))
    ∷ []))

-- The eight stores of a word load of column s and row t. `from k` is the source place of the word's byte k.
unfoldable pub word_stores : LoadTile → ℕ → ℕ → (ℕ → ℕ) → List Store
word_stores t s row from =
    let h : ℕ = halfword t s in
    let f : ℕ = first_spot (base t row) h in
    let o : ℕ = odd_spot row in
    let l : List ℕ = list4 f o in
    cond (splits t) (split_stores t l (bit_xor (bit_and h 2) o) from) (whole_stores l (upper f) o from)

-- the columns of a word of an image: 16 >> image size
abbrev pub word_columns : ℕ → ℕ
word_columns image = 16 / 2 ^ image

-- "Block word w: s = w·(16 >> image size), t = w·dxt div 2,048, p = 8w."
unfoldable pub block_stores : LoadTile → ℕ → ℕ → ℕ → List Store
block_stores t image dxt words =
    concat (tab words (λ w. word_stores (image_tile image t) (w * word_columns image) (w * dxt / 2048) (λ k. 8 * w + k)))

-- "Tile: t is the row, p = row·stride + 8w."
unfoldable pub tile_row : LoadTile → ℕ → ℕ → ℕ → ℕ → List Store
tile_row t image words stride row =
    concat (tab words (λ w. word_stores (image_tile image t) (w * word_columns image) row (λ k. row * stride + 8 * w + k)))

unfoldable pub tile_stores : LoadTile → ℕ → ℕ → ℕ → ℕ → List Store
tile_stores t image rows words stride = concat (tab rows (tile_row t image words stride))

-- "a step covers one entry and advances 2 source bytes at size 2, else it covers 16 >> size entries and advances 8"
abbrev pub entries : ℕ → ℕ
entries image = cond (eqb image 2) 1 (16 / 2 ^ image)

abbrev pub advance : ℕ → ℕ
advance image = cond (eqb image 2) 2 8

-- "steps = count rounded up"
abbrev pub steps : ℕ → ℕ → ℕ
steps image count = (count + (entries image - 1)) / entries image

-- "one word load per step at t = 0, s = step·(64 >> image size)"; "Each source offset is taken mod 2"
unfoldable pub hardware_stores : LoadTile → ℕ → ℕ → List Store
hardware_stores t image count =
    concat (tab (steps image count) (λ i. word_stores t (i * (64 / 2 ^ image)) 0 (λ k. i * advance image + k % 2)))

-- "per row r and entry i, eight bytes at (8·tmem_addr + 32·r·line + 8i) mod 4,096 take bytes r·stride + 2i and the next,
-- alternating"
unfoldable pub entry_stores : LoadTile → ℕ → ℕ → ℕ → List Store
entry_stores t stride r i =
    tab 8 (λ k. store ((8 * t.tmem_addr + 32 * r * t.line + 8 * i) % 4096 + k) (r * stride + 2 * i + k % 2))

unfoldable pub entry_row : LoadTile → ℕ → ℕ → ℕ → List Store
entry_row t count stride r = concat (tab count (entry_stores t stride r))

unfoldable pub row_stores : LoadTile → ℕ → ℕ → ℕ → List Store
row_stores t count rows stride = concat (tab rows (entry_row t count stride))

-- "TLUT with rows 1 and image size above 0: .. Otherwise ..": a table is loaded by the hardware's path, or by rows
abbrev pub by_hardware : ℕ → ℕ → Bool
by_hardware image rows = eqb rows 1 && ltb 0 image

unfoldable pub tlut_stores : LoadTile → ℕ → ℕ → ℕ → ℕ → List Store
tlut_stores t image count rows stride = cond (by_hardware image rows) (hardware_stores t image count) (row_stores t count rows stride)

-- the bank after the stores, one after the other; "it is read as zero past its end", the source
unfoldable pub stored : List ℕ → List Store → List ℕ → List ℕ
stored src [] bank = bank
stored src (s ∷ l) bank = stored src l (set bank s.at (get_or src s.from 0))

-- the addresses that the stores go to
abbrev pub addresses : List Store → List ℕ
addresses l = map (λ s. s.at) l

-- "Each store marks its address", with "the number of the last load that stored there": the written record after a load whose number is n
unfoldable pub written : ℕ → List Store → List ℕ → List ℕ
written n l m = stamps n m (addresses l)

-- the number of the load after the one whose number is given: "counted from 1 since the fresh state"
abbrev pub following : ℕ → ℕ
following last = last + 1

-- Document 02's item 8: an ordinary load, or a rejected one "with a reason number from 1 to 255"
pub data Reason : Type 0 where
  ordinary : Reason
  rejected : ℕ → Reason

-- "reason 0 or above 255"
abbrev pub reason_outside : Reason → Bool
reason_outside ordinary = false
reason_outside (rejected n) = eqb n 0 || ltb 255 n

-- what it leaves at an address: "its reason", or "0 for none": "an ordinary load clears it"
abbrev pub reason_left : Reason → ℕ
reason_left ordinary = 0
reason_left (rejected n) = n

-- "leaves its reason at each address": the reasons after the stores, one after the other
unfoldable pub reasoned : ℕ → List Store → List ℕ → List ℕ
reasoned n [] reasons = reasons
reasoned n (s ∷ l) reasons = reasoned n l (set reasons s.at n)

-- "the number of stores in the rule's list whose source place is at or past the length. A replicated byte counts each time it is
-- stored."
unfoldable pub made_up : ℕ → List Store → ℕ
made_up size l = how_many (λ s. leb size s.from) l

-- "Each word load shall also answer how many of its eight bytes came from past the source's end": `from k` is the place of byte k.
unfoldable pub word_made_up : ℕ → (ℕ → ℕ) → ℕ
word_made_up size from = how_many (λ k. leb size (from k)) (tab 8 (λ k. k))
