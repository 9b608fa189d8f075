-- "Banks and texels worked by hand": P1 to P12 in one table, with the fourth slip and the lister's example beside them. "Fields not named
-- are 0, the bank is fresh." `Rattle.rules.proofs.Worked` proves every row. What document 02 asks for is worked in tables of its own.
use Rattle.std.specs.Prelude.{Bool, true, List, [], ◌∷◌, ◌++◌, ℕ, T, set, replicate, take, drop}
use Rattle.rules.specs.Base.{one, tab, concat, all, same}
use Rattle.rules.specs.Reading.{trail}
use Rattle.rules.specs.Tile.{Tile, bank_size}
use Rattle.rules.specs.Refusal.{Outcome}
use Rattle.rules.specs.Texdec.{rgba16_texel, ia4_texel, ia8_texel}
use Rattle.rules.specs.Sampling.{flag}
use Rattle.rules.specs.Load.{Store, load_tile, stored, block_stores, tlut_stores}
use Rattle.rules.specs.Picture.{picture, texel}
use Rattle.rules.specs.Key.{key, kept_count}
use Rattle.rules.specs.Lister.{listing}

-- two lists of numbers that have to be the same
pub record Case : Type 0 where
  pub found : List ℕ
  pub expected : List ℕ

infix 20 ◌gives◌
abbrev pub ◌gives◌ : List ℕ → List ℕ → Case
a gives b = record { found = a; expected = b }

-- the two lists of every case are the same
abbrev pub all_same : List Case → Bool
all_same cases = all (λ c. same c.found c.expected) cases

-- refusal, numbers, and what is left in the lent buffers
abbrev pub answer : Outcome → List ℕ
answer o = o.refusal ∷ (o.numbers ++ concat o.buffers)

-- refusal and numbers alone
abbrev pub answers : Outcome → List ℕ
answers o = o.refusal ∷ o.numbers

-- a fresh bank
abbrev pub fresh : List ℕ
fresh = replicate bank_size 0

-- a tile with fmt, siz, line, tmem_addr, width and height; the fields not named are 0
abbrev pub tile : ℕ → ℕ → ℕ → ℕ → ℕ → ℕ → Tile
tile fmt siz line tmem width height =
    record {
      fmt = fmt;
      siz = siz;
      palette = 0;
      cms = 0;
      cmt = 0;
      masks = 0;
      maskt = 0;
      line = line;
      tmem_addr = tmem;
      width = width;
      height = height;
    }

-- a tile of width 16 with cms and masks; "other fields neutral"
abbrev masked : ℕ → ℕ → Tile
masked cms masks =
    record {
      fmt = 0;
      siz = 0;
      palette = 0;
      cms = cms;
      cmt = 0;
      masks = masks;
      maskt = 0;
      line = 0;
      tmem_addr = 0;
      width = 16;
      height = 0;
    }

-- n bytes of a bank from an address on
abbrev pub bytes_at : ℕ → ℕ → List ℕ → List ℕ
bytes_at a n b = take n (drop a b)

-- the source 0, 1, .. n - 1
abbrev pub counting : ℕ → List ℕ
counting n = tab n (λ i. i)

abbrev loaded_bank : List ℕ → List Store → List ℕ
loaded_bank src l = stored src l fresh

abbrev p5_bank : List ℕ
p5_bank = loaded_bank (counting 16) (block_stores (load_tile (tile 0 2 0 0 0 0)) 2 2048 2)

abbrev p6_bank : List ℕ
p6_bank = loaded_bank (counting 8) (block_stores (load_tile (tile 0 3 0 0 0 0)) 3 0 1)

abbrev p7_bank : List ℕ
p7_bank = loaded_bank (counting 16) (block_stores (load_tile (tile 0 0 0 255 0 0)) 2 0 2)

abbrev p8_bank : List ℕ
p8_bank = loaded_bank (0xab ∷ 0xcd ∷ []) (tlut_stores (load_tile (tile 0 0 0 256 0 0)) 2 1 1 0)

abbrev pub flags : Bool → Bool → Bool → List ℕ
flags a b c = one a ∷ one b ∷ one c ∷ []

-- P12: (2,1), 1 by 1, and a bank whose byte 0 is 3
abbrev pub ci8_one : Tile
ci8_one = tile 2 1 0 0 1 1

abbrev byte3 : List ℕ
byte3 = set fresh 0 3

-- "Record 04 01, ten zeros, 00 02 00 01, then a zero bank"
abbrev listed_record : List ℕ
listed_record = 4 ∷ 1 ∷ (replicate 10 0 ++ (0 ∷ 2 ∷ 0 ∷ 1 ∷ fresh))

-- P1: entry F801
unfoldable pub p1 : List Case
p1 =
    (rgba16_texel 0xf801 gives 255 ∷ 0 ∷ 0 ∷ 255 ∷ [])
    ∷ []

-- P2: entry 8420
unfoldable pub p2 : List Case
p2 =
    (rgba16_texel 0x8420 gives 132 ∷ 132 ∷ 132 ∷ 0 ∷ [])
    ∷ []

-- P3: IA4 nibbles 2, 9, 15
unfoldable pub p3 : List Case
p3 =
    (ia4_texel 2 gives 36 ∷ 36 ∷ 36 ∷ 0 ∷ [])
    ∷ (ia4_texel 9 gives 146 ∷ 146 ∷ 146 ∷ 255 ∷ [])
    ∷ (ia4_texel 15 gives 255 ∷ 255 ∷ 255 ∷ 255 ∷ [])
    ∷ []

-- P4: IA8 5A
unfoldable pub p4 : List Case
p4 =
    (ia8_texel 0x5a gives 85 ∷ 85 ∷ 85 ∷ 170 ∷ [])
    ∷ []

-- P5: "addresses 8..15 hold 12,13,14,15,8,9,10,11"
unfoldable pub p5 : List Case
p5 =
    (bytes_at 8 8 p5_bank gives 12 ∷ 13 ∷ 14 ∷ 15 ∷ 8 ∷ 9 ∷ 10 ∷ 11 ∷ [])
    ∷ []

-- P6: "0,1,4,5 at 0; 2,3,6,7 at 2,048"
unfoldable pub p6 : List Case
p6 =
    (bytes_at 0 4 p6_bank gives 0 ∷ 1 ∷ 4 ∷ 5 ∷ [])
    ∷ (bytes_at 2048 4 p6_bank gives 2 ∷ 3 ∷ 6 ∷ 7 ∷ [])
    ∷ []

-- P7: "0,1 hold 8,9; 2,040 on holds 0,1,10..15"
unfoldable pub p7 : List Case
p7 =
    (bytes_at 0 2 p7_bank gives 8 ∷ 9 ∷ [])
    ∷ (bytes_at 2040 8 p7_bank gives 0 ∷ 1 ∷ 10 ∷ 11 ∷ 12 ∷ 13 ∷ 14 ∷ 15 ∷ [])
    ∷ []

-- P8: "AB CD four times at 2,048"
unfoldable pub p8 : List Case
p8 =
    (bytes_at 2048 8 p8_bank gives 0xab ∷ 0xcd ∷ 0xab ∷ 0xcd ∷ 0xab ∷ 0xcd ∷ 0xab ∷ 0xcd ∷ [])
    ∷ []

-- P9: masks 4, 5: flags 0, 1; masks 5, cms 2: 0
unfoldable pub p9 : List Case
p9 =
    (flags (flag (masked 0 4) 0) (flag (masked 0 5) 0) (flag (masked 2 5) 0) gives 0 ∷ 1 ∷ 0 ∷ [])
    ∷ []

-- P10: I8, height 256 and 257, line 1: 0 and 1; line 2: 0
unfoldable pub p10 : List Case
p10 =
    (flags (flag (tile 4 1 1 0 0 256) 0) (flag (tile 4 1 1 0 0 257) 0) (flag (tile 4 1 2 0 0 257) 0) gives 0 ∷ 1 ∷ 0 ∷ [])
    ∷ []

-- P11: "key keeps 0 and 12"
unfoldable pub p11 : List Case
p11 =
    (key (tile 4 0 1 0 1 2) 0 0 (replicate bank_size 255) gives set (set fresh 0 255) 12 255)
    ∷ []

-- P12: "lane 0 keeps 0, 2,072, 2,073": the addresses read, their number and the key
unfoldable pub p12 : List Case
p12 =
    (trail (picture ci8_one 2 0) byte3 gives 0 ∷ 2072 ∷ 2073 ∷ [])
    ∷ (kept_count ci8_one 2 0 byte3 ∷ [] gives 3 ∷ [])
    ∷ (key ci8_one 2 0 byte3 gives byte3)
    ∷ []

-- the fourth slip: "Lookup rel 3 on an odd row, base 0, (0,2): bytes 7 and 0, not 7 and 8"
unfoldable pub slip : List Case
slip =
    (trail (texel (tile 0 2 0 0 0 0) 0 0 true 3 0) fresh gives 7 ∷ 0 ∷ [])
    ∷ []

-- the lister's example prints "0 0 2 2"
unfoldable pub listed : List Case
listed =
    (listing listed_record gives 48 ∷ 32 ∷ 48 ∷ 32 ∷ 50 ∷ 32 ∷ 50 ∷ 10 ∷ [])
    ∷ []

-- each part by its name
unfoldable pub table : List (List Case)
table = p1 ∷ p2 ∷ p3 ∷ p4 ∷ p5 ∷ p6 ∷ p7 ∷ p8 ∷ p9 ∷ p10 ∷ p11 ∷ p12 ∷ slip ∷ listed ∷ []

-- every part of a table holds: each is a statement of its own, so that one that does not hold is told by its name
unfoldable pub Holds : List (List Case) → Type 0
Holds [] = Unit {0}
Holds (part ∷ parts) = T (all_same part) × Holds parts
