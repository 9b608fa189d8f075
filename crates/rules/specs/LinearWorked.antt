-- Document 02's item 11: linear decodings worked. `Rattle.rules.proofs.LinearWorked` proves every row.
use Rattle.std.specs.Prelude.{List, [], ◌∷◌, map, ℕ, replicate}
use Rattle.rules.specs.Tile.{linear_tile_from}
use Rattle.rules.specs.Calls.{linear_call}
use Rattle.rules.specs.Worked.{Case, ◌gives◌, answer, counting}

-- a linear decoding of a pair, palette, sides and stride, from a source into a picture of 9s: what it answers and leaves
abbrev linearly : ℕ → ℕ → ℕ → ℕ → ℕ → ℕ → List ℕ → ℕ → List ℕ
linearly fmt siz palette width height stride src room =
    answer (linear_call src (linear_tile_from fmt siz palette width height) stride (replicate room 9))

-- its refusal, of a source and a picture of so many bytes
abbrev linear_refusal : ℕ → ℕ → ℕ → ℕ → ℕ → ℕ → ℕ → ℕ → ℕ
linear_refusal fmt siz palette width height stride size room =
    (linear_call (replicate size 0) (linear_tile_from fmt siz palette width height) stride (replicate room 9)).refusal

unfoldable pub linear_table : List Case
linear_table =
    -- the linear decoding: RGBA16 and IA16, the high byte first, and P1's red
    (linearly 0 2 0 2 1 0 (0xf8 ∷ 0x01 ∷ 0x84 ∷ 0x20 ∷ []) 8 gives 0 ∷ 4 ∷ 255 ∷ 0 ∷ 0 ∷ 255 ∷ 132 ∷ 132 ∷ 132 ∷ 0 ∷ [])
    ∷ (linearly 3 2 0 2 1 0 (1 ∷ 2 ∷ 3 ∷ 4 ∷ []) 8 gives 0 ∷ 4 ∷ 1 ∷ 1 ∷ 1 ∷ 2 ∷ 3 ∷ 3 ∷ 3 ∷ 4 ∷ [])
    -- RGBA32, four bytes a texel; a picture that is longer keeps its further bytes
    ∷ (linearly 0 3 0 2 1 0 (counting 8) 9 gives 0 ∷ 8 ∷ 0 ∷ 1 ∷ 2 ∷ 3 ∷ 4 ∷ 5 ∷ 6 ∷ 7 ∷ 9 ∷ [])
    -- IA8, with rows that overlap
    ∷ (linearly 3 1 0 2 2 1 (0x5a ∷ 0xff ∷ 0x0f ∷ []) 16
    gives 0 ∷ 4 ∷ 85 ∷ 85 ∷ 85 ∷ 170 ∷ 255 ∷ 255 ∷ 255 ∷ 255 ∷ 255 ∷ 255 ∷ 255 ∷ 255 ∷ 0 ∷ 0 ∷ 0 ∷ 255 ∷ [])
    -- I4 of an odd width: each row starts at its own byte; IA4 nibbles of P3
    ∷ (linearly 4 0 0 1 2 1 (0x12 ∷ 0x34 ∷ []) 8 gives 0 ∷ 2 ∷ 17 ∷ 17 ∷ 17 ∷ 17 ∷ 51 ∷ 51 ∷ 51 ∷ 51 ∷ [])
    ∷ (linearly 4 0 0 3 1 0 (0x12 ∷ 0x34 ∷ []) 12 gives 0 ∷ 3 ∷ 17 ∷ 17 ∷ 17 ∷ 17 ∷ 34 ∷ 34 ∷ 34 ∷ 34 ∷ 51 ∷ 51 ∷ 51 ∷ 51 ∷ [])
    ∷ (linearly 3 0 0 2 1 0 (0x29 ∷ []) 8 gives 0 ∷ 2 ∷ 36 ∷ 36 ∷ 36 ∷ 0 ∷ 146 ∷ 146 ∷ 146 ∷ 255 ∷ [])
    -- I8, rows 3 apart, the second cut short by the source's end: its bytes are zero, and are counted as reads
    ∷ (linearly 4 1 0 2 2 3 (1 ∷ 2 ∷ 3 ∷ 4 ∷ []) 16
    gives 0 ∷ 4 ∷ 1 ∷ 1 ∷ 1 ∷ 1 ∷ 2 ∷ 2 ∷ 2 ∷ 2 ∷ 4 ∷ 4 ∷ 4 ∷ 4 ∷ 0 ∷ 0 ∷ 0 ∷ 0 ∷ [])
    -- an index is itself: (2,0) with its palette, (2,1), and (2,2) twice
    ∷ (linearly 2 0 3 2 1 0 (0x5c ∷ []) 8 gives 0 ∷ 2 ∷ 53 ∷ 53 ∷ 53 ∷ 53 ∷ 60 ∷ 60 ∷ 60 ∷ 60 ∷ [])
    ∷ (linearly 2 1 3 1 1 0 (0x5c ∷ []) 4 gives 0 ∷ 1 ∷ 92 ∷ 92 ∷ 92 ∷ 92 ∷ [])
    ∷ (linearly 2 2 3 1 1 0 (7 ∷ []) 4 gives 0 ∷ 2 ∷ 7 ∷ 0 ∷ 7 ∷ 0 ∷ [])
    -- a picture of no texels reads nothing
    ∷ (linearly 4 1 0 0 5 1 (1 ∷ []) 1 gives 0 ∷ 0 ∷ 9 ∷ [])
    -- refused: 2, 4, 5, 6 in this order, with a count of 0 and the picture as it was; (2,3) and an unknown pair are 5
    ∷ (linearly 2 3 0 1 1 0 (1 ∷ 2 ∷ []) 4 gives 5 ∷ 0 ∷ 9 ∷ 9 ∷ 9 ∷ 9 ∷ [])
    ∷ (linear_refusal 1 4 16 4097 4097 65536 0 0 ∷ linear_refusal 1 3 15 4096 4096 65536 0 0 ∷ [] gives 2 ∷ 4 ∷ [])
    ∷ (linear_refusal 2 3 0 1 1 65535 0 3 ∷ linear_refusal 0 3 0 1 1 65535 0 3 ∷ [] gives 5 ∷ 6 ∷ [])
    ∷ (map (λ palette. linear_refusal 4 1 palette 0 0 0 0 0) (15 ∷ 16 ∷ []) gives 0 ∷ 2 ∷ [])
    ∷ (map (λ side. linear_refusal 4 1 0 side 0 0 0 0) (4096 ∷ 4097 ∷ []) gives 0 ∷ 2 ∷ [])
    ∷ (map (λ side. linear_refusal 4 1 0 0 side 0 0 0) (4096 ∷ 4097 ∷ []) gives 0 ∷ 2 ∷ [])
    ∷ (map (λ stride. linear_refusal 4 1 0 0 0 stride 0 0) (65535 ∷ 65536 ∷ []) gives 0 ∷ 4 ∷ [])
    ∷ (map (λ size. linear_refusal 4 1 0 0 0 0 size 0) (65536 ∷ 65537 ∷ []) gives 0 ∷ 4 ∷ [])
    ∷ []
