-- The addresses that a tile can reach, in order; whether one was loaded, and which reason is the first among them; the lane check.
use Rattle.std.specs.Prelude.{Bool, true, false, cond, not, ◌&&◌, ◌||◌, List, [], ◌∷◌, ◌++◌, ℕ, zero, suc, ◌+◌, ◌-◌, ◌*◌, ◌/◌, ◌%◌, ◌^◌}
use Rattle.std.specs.Prelude.{min, max, eqb, ltb, leb, get_or, replicate}
use Rattle.rules.specs.Base.{odd, tab, concat, marks, is_written, any}
use Rattle.rules.specs.Tile.{Tile, palette_base, lane_map_size, fresh_map}
use Rattle.rules.specs.Texdec.{tlut}
use Rattle.rules.specs.Sampling.{flag, repeats, is_rgba32}
use Rattle.rules.specs.Picture.{address}

-- "Reach extents: 2^mask where mask is not 0 and the clamp bit is clear, else max(size,1)."
abbrev pub extent : ℕ → ℕ → ℕ → ℕ
extent cm mask size = cond (repeats cm mask) (2 ^ mask) (max size 1)

-- "Row bytes: half a byte, 1, 2, 2 for siz 0 to 3 times the width extent, rounded up, at most 4,096."
abbrev pub sized_bytes : ℕ → ℕ → ℕ
sized_bytes siz w = cond (eqb siz 0) ((w + 1) / 2) (cond (eqb siz 1) w (2 * w))

unfoldable pub row_bytes : Tile → ℕ
row_bytes t = min (sized_bytes t.siz (extent t.cms t.masks t.width)) 4096

-- the zeros at the end of n, at most k of them
unfoldable pub trailing_zeros : ℕ → ℕ → ℕ
trailing_zeros zero n = 0
trailing_zeros (suc k) n = cond (eqb (n % 2) 0) (suc (trailing_zeros k (n / 2))) 0

-- "at most max(2, 4,096 >> trailing zeros of 8·line), 2 when line is 0"
unfoldable pub row_period : Tile → ℕ
row_period t = max 2 (4096 / 2 ^ trailing_zeros 12 (8 * t.line))

-- "Rows: the height extent, at most .."
unfoldable pub reach_rows : Tile → ℕ
reach_rows t = min (extent t.cmt t.maskt t.height) (row_period t)

-- "mod 4,096, or mod 2,048 in modes 2, 3 and for (0,3)"
abbrev pub modulus : Tile → ℕ → ℕ
modulus t mode = cond (tlut mode || is_rgba32 t.fmt t.siz) 2048 4096

-- "In modes 0, 1 each address of (0,3) is followed by itself plus 2,048."
unfoldable pub doubled : Tile → ℕ → ℕ → List ℕ
doubled t mode a = cond (ltb mode 2 && is_rgba32 t.fmt t.siz) (a ∷ (a + 2048) ∷ []) (a ∷ [])

-- "x steps by 2 for modes 2, 3 with siz 2, 3."
abbrev pub x_step : Tile → ℕ → ℕ
x_step t mode = cond (tlut mode && leb 2 t.siz) 2 1

-- how many x of a row are taken
abbrev pub x_count : Tile → ℕ → ℕ
x_count t mode = (row_bytes t + (x_step t mode - 1)) / x_step t mode

-- "Row y, byte x: 8·tmem_addr + (y·8·line + x, xor 4 on odd y)"
unfoldable pub reach_at : Tile → ℕ → ℕ → ℕ → List ℕ
reach_at t mode y i =
    doubled t mode (address (modulus t mode) (8 * t.tmem_addr) (odd y) (y * (8 * t.line) + x_step t mode * i))

unfoldable pub reach_row : Tile → ℕ → ℕ → List ℕ
reach_row t mode y = concat (tab (x_count t mode) (reach_at t mode y))

unfoldable pub reach_plain : Tile → ℕ → List ℕ
reach_plain t mode = concat (tab (reach_rows t) (reach_row t mode))

-- "With flag 1, every address from 0 below that modulus, rising."
unfoldable pub reach_whole : Tile → ℕ → List ℕ
reach_whole t mode = concat (tab (modulus t mode) (doubled t mode))

-- the ordered reach list
unfoldable pub reach : Tile → ℕ → List ℕ
reach t mode = elim (flag t mode) [ true ↦ reach_whole t mode | false ↦ reach_plain t mode ]

-- "Reach maps, lane maps and keys are overwritten whole on success"
unfoldable pub reach_map : Tile → ℕ → List ℕ
reach_map t mode = marks fresh_map (reach t mode)

-- "A tile has a load if reach and the written map meet."
unfoldable pub has_load : Tile → ℕ → List ℕ → Bool
has_load t mode map = any (is_written map) (reach t mode)

-- Document 02's item 8. "in modes 2 and 3 then in palette order: the 128 bytes of the tile's palette for siz 0, else the upper half"
unfoldable pub palette_order : Tile → ℕ → List ℕ
palette_order t mode =
    cond (tlut mode)
    (cond (eqb t.siz 0) (tab 128 (λ i. palette_base + 128 * t.palette + i)) (tab 2048 (λ i. palette_base + i)))
    []

-- a reason where there is one, else another
abbrev pub or_else : ℕ → ℕ → ℕ
or_else zero other = other
or_else (suc n) other = suc n

-- "the reason at the first address .. that has one", "0 for none"
unfoldable pub first_reason : List ℕ → List ℕ → ℕ
first_reason reasons [] = 0
first_reason reasons (a ∷ l) = or_else (get_or reasons a 0) (first_reason reasons l)

-- "The question gives the reason at the first address in reach order that has one, and in modes 2 and 3 then in palette order"
unfoldable pub rejection : Tile → ℕ → List ℕ → ℕ
rejection t mode reasons = first_reason reasons (reach t mode ++ palette_order t mode)

-- "Its bit is set exactly when its second, third or fourth pair of bytes differs from its first."
abbrev pub slot_byte : List ℕ → ℕ → ℕ → ℕ
slot_byte bank j k = get_or bank (2048 + 8 * j + k) 0

abbrev pub pair_differs : List ℕ → ℕ → ℕ → Bool
pair_differs bank j p =
    not (eqb (slot_byte bank j (2 * p)) (slot_byte bank j 0)) || not (eqb (slot_byte bank j (2 * p + 1)) (slot_byte bank j 1))

unfoldable pub uneven : List ℕ → ℕ → Bool
uneven bank j = any (pair_differs bank j) (1 ∷ 2 ∷ 3 ∷ [])

-- the slots whose bit is set, rising: "Lane maps use slot numbers the same way."
unfoldable pub uneven_slots : List ℕ → List ℕ
uneven_slots bank = concat (tab 256 (λ j. cond (uneven bank j) (j ∷ []) []))

unfoldable pub lane_map : List ℕ → List ℕ
lane_map bank = marks (replicate lane_map_size 0) (uneven_slots bank)
