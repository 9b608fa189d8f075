-- Which picture a tile calls for, and its extent.
use Rattle.std.specs.Prelude.{Bool, cond, not, ◌&&◌, ◌||◌, ℕ, ◌*◌, ◌^◌, max, eqb, ltb}
use Rattle.std.specs.Int.Bits.{bit_and}
use Rattle.rules.specs.Base.{odd}
use Rattle.rules.specs.Tile.{Tile, sized}
use Rattle.rules.specs.Texdec.{tlut}

-- "mask is not 0, the clamp bit (value 2) of cms/cmt is clear": the axis repeats every 2^mask
abbrev pub repeats : ℕ → ℕ → Bool
repeats cm mask = not (eqb mask 0) && eqb (bit_and cm 2) 0

-- "and 2^mask exceeds max(size,1)"
abbrev pub past_size : ℕ → ℕ → ℕ → Bool
past_size cm mask size = repeats cm mask && ltb (max size 1) (2 ^ mask)

abbrev pub is_rgba32 : ℕ → ℕ → Bool
is_rgba32 fmt siz = eqb fmt 0 && eqb siz 3

-- "or height > 256 with odd line, mode below 2 and not (0,3)"
abbrev pub tall_odd : Tile → ℕ → Bool
tall_odd t mode = ltb 256 t.height && odd t.line && ltb mode 2 && not (is_rgba32 t.fmt t.siz)

-- "or fmt is 1 in mode 2 or 3"
abbrev pub yuv_tlut : Tile → ℕ → Bool
yuv_tlut t mode = eqb t.fmt 1 && tlut mode

unfoldable pub flag : Tile → ℕ → Bool
flag t mode =
    past_size t.cms t.masks t.width
    || past_size t.cmt t.maskt t.height
    || tall_odd t mode
    || yuv_tlut t mode

-- Document 02's item 4: "On each axis, where the mask is not 0, the clamp bit is clear and 2^mask is below the size, the key shall now
-- come from the first 2^mask columns or rows."
abbrev pub visible_side : ℕ → ℕ → ℕ → ℕ
visible_side cm mask size = cond (repeats cm mask && ltb (2 ^ mask) size) (2 ^ mask) size

-- the tile with its sides cut to what is visible
abbrev pub visible : Tile → Tile
visible t = sized t (visible_side t.cms t.masks t.width) (visible_side t.cmt t.maskt t.height)

-- "The allocation extent is 4,096 by 4 for flag 1, else max(width,1) by max(height,1)."
unfoldable pub extent_width : Tile → ℕ → ℕ
extent_width t mode = cond (flag t mode) 4096 (max t.width 1)

unfoldable pub extent_height : Tile → ℕ → ℕ
extent_height t mode = cond (flag t mode) 4 (max t.height 1)

-- the texels of a lookup, and of the picture that the flag calls for
abbrev pub lookup_texels : ℕ
lookup_texels = 16384

unfoldable pub texels : Tile → ℕ → ℕ
texels t mode = cond (flag t mode) lookup_texels (t.width * t.height)

-- the texels of the visible picture; the flag is the whole tile's
unfoldable pub visible_texels : Tile → ℕ → ℕ
visible_texels t mode = cond (flag t mode) lookup_texels ((visible t).width * (visible t).height)
