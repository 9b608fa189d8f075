-- The tile record, and the ranges of all numbers: "Numbers that bound everything".
use Rattle.std.specs.Prelude.{Bool, ◌||◌, List, ℕ, ◌≤◌, ltb, replicate}

-- "Bank 4,096 bytes; palette base 2,048. MASK8 and MASK16 are taken as 4,095 and 2,047."
abbrev pub bank_size : ℕ
bank_size = 4096

abbrev pub palette_base : ℕ
palette_base = 2048

abbrev pub mask8 : ℕ
mask8 = 4095

abbrev pub mask16 : ℕ
mask16 = 2047

-- the words of a bank: a word is eight bytes
abbrev pub bank_words : ℕ
bank_words = 512

-- the bytes of a reach map
abbrev pub map_size : ℕ
map_size = 512

-- "The exported written map becomes 8,192 bytes, two an address"
abbrev pub written_size : ℕ
written_size = 8192

-- document 02's item 8: "Reasons are a lent map of 4,096 bytes"
abbrev pub reasons_size : ℕ
reasons_size = 4096

-- the bytes of a lane map
abbrev pub lane_map_size : ℕ
lane_map_size = 32

-- "A fresh bank is all zero with no byte marked written."
abbrev pub fresh_bank : List ℕ
fresh_bank = replicate bank_size 0

abbrev pub fresh_written : List ℕ
fresh_written = replicate written_size 0

-- reasons, "0 for none"
abbrev pub fresh_reasons : List ℕ
fresh_reasons = replicate reasons_size 0

-- a reach map with no address marked
abbrev pub fresh_map : List ℕ
fresh_map = replicate map_size 0

pub record Tile : Type 0 where
  pub fmt : ℕ
  pub siz : ℕ
  pub palette : ℕ
  pub cms : ℕ
  pub cmt : ℕ
  pub masks : ℕ
  pub maskt : ℕ
  pub line : ℕ
  pub tmem_addr : ℕ
  pub width : ℕ
  pub height : ℕ

-- a tile of its eleven numbers, in the order of the lister's record, which has the mode among them
abbrev pub tile_from : ℕ → ℕ → ℕ → ℕ → ℕ → ℕ → ℕ → ℕ → ℕ → ℕ → ℕ → Tile
tile_from fmt siz palette cms cmt masks maskt line tmem_addr width height =
    record {
      fmt = fmt;
      siz = siz;
      palette = palette;
      cms = cms;
      cmt = cmt;
      masks = masks;
      maskt = maskt;
      line = line;
      tmem_addr = tmem_addr;
      width = width;
      height = height;
    }

-- the tile with other sides
abbrev pub sized : Tile → ℕ → ℕ → Tile
sized t width height =
    tile_from t.fmt t.siz t.palette t.cms t.cmt t.masks t.maskt t.line t.tmem_addr width height

-- a tile of the four numbers that a load takes; the others are 0
abbrev pub load_tile_from : ℕ → ℕ → ℕ → ℕ → Tile
load_tile_from fmt siz line tmem_addr = tile_from fmt siz 0 0 0 0 0 line tmem_addr 0 0

-- a tile of the five numbers that a linear decoding takes; the others are 0
abbrev pub linear_tile_from : ℕ → ℕ → ℕ → ℕ → ℕ → Tile
linear_tile_from fmt siz palette width height = tile_from fmt siz palette 0 0 0 0 0 0 width height

-- document 02's item 12: "Raise width and height to 4,096." Bounds of sides are written from this; the code has its constant in `rdp`.
abbrev pub side_limit : ℕ
side_limit = 4096

-- a side of a picture is above a limit, and above this one
abbrev pub sides_above : ℕ → ℕ → ℕ → Bool
sides_above limit width height = ltb limit width || ltb limit height

abbrev pub sides_outside : ℕ → ℕ → Bool
sides_outside width height = sides_above side_limit width height

-- "Of the tile a load takes fmt, siz, line and tmem_addr alone": one of them is outside its range
abbrev pub load_fields_outside : Tile → Bool
load_fields_outside t = ltb 7 t.fmt || ltb 3 t.siz || ltb 511 t.line || ltb 511 t.tmem_addr

-- of the tile a linear decoding takes fmt, siz, palette, width and height alone: one of them is outside its range
abbrev pub linear_fields_outside : Tile → Bool
linear_fields_outside t = ltb 7 t.fmt || ltb 3 t.siz || ltb 15 t.palette || sides_outside t.width t.height

-- "Tile: fmt 0..7, siz 0..3, palette 0..15, cms and cmt 0..3, masks and maskt 0..15, line and tmem_addr 0..511, width
-- and height 0..": a field is outside its range, where the sides go up to a limit
abbrev pub tile_outside_to : ℕ → Tile → Bool
tile_outside_to limit t =
    load_fields_outside t
    || ltb 15 t.palette
    || ltb 3 t.cms
    || ltb 3 t.cmt
    || ltb 15 t.masks
    || ltb 15 t.maskt
    || ltb limit t.width
    || ltb limit t.height

abbrev pub tile_outside : Tile → Bool
tile_outside t = tile_outside_to side_limit t

-- every field is inside its range
pub record InRange (t : Tile) : Type 0 where
  pub fmt : t.fmt ≤ 7
  pub siz : t.siz ≤ 3
  pub palette : t.palette ≤ 15
  pub cms : t.cms ≤ 3
  pub cmt : t.cmt ≤ 3
  pub masks : t.masks ≤ 15
  pub maskt : t.maskt ≤ 15
  pub line : t.line ≤ 511
  pub tmem_addr : t.tmem_addr ≤ 511
  pub width : t.width ≤ side_limit
  pub height : t.height ≤ side_limit

-- "Mode (tlut) 0..3, lane 0..3."
abbrev pub mode_outside : ℕ → Bool
mode_outside mode = ltb 3 mode

abbrev pub lane_outside : ℕ → Bool
lane_outside lane = ltb 3 lane
