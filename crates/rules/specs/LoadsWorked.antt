-- Document 02's items 2, 7, 8 and 9: what loads make up, their numbers and reasons, and what the calls of TLUT and tile loads take,
-- worked.
-- `Rattle.rules.proofs.LoadsWorked` proves every row of each table.
use Rattle.std.specs.Prelude.{List, [], ◌∷◌, ◌++◌, map, ℕ, get_or, replicate}
use Rattle.rules.specs.Base.{concat}
use Rattle.rules.specs.Tile.{reasons_size, fresh_written, fresh_reasons}
use Rattle.rules.specs.Refusal.{Outcome}
use Rattle.rules.specs.Load.{load_tile, block_stores, tlut_stores, Reason, ordinary, rejected, made_up}
use Rattle.rules.specs.Calls.{block_call, tile_call, tlut_hardware_call, tlut_rows_call}
use Rattle.rules.specs.Worked.{Case, ◌gives◌, answers, fresh, tile, bytes_at, counting}

-- what P5, P6 and P8 make up of a source of so many bytes; P8 with the image size that picks its path
abbrev p5_made_up : ℕ → ℕ
p5_made_up size = made_up size (block_stores (load_tile (tile 0 2 0 0 0 0)) 2 2048 2)

abbrev p6_made_up : ℕ → ℕ
p6_made_up size = made_up size (block_stores (load_tile (tile 0 3 0 0 0 0)) 3 0 1)

abbrev p8_made_up : ℕ → ℕ → ℕ
p8_made_up image size = made_up size (tlut_stores (load_tile (tile 0 0 0 256 0 0)) image 1 1 0)

unfoldable pub made_up_table : List Case
made_up_table =
    -- P5's block and P6's, of sources that end before, at and after each one's last byte
    (map p5_made_up (0 ∷ 1 ∷ 8 ∷ 15 ∷ 16 ∷ 17 ∷ []) gives 16 ∷ 15 ∷ 8 ∷ 1 ∷ 0 ∷ 0 ∷ [])
    ∷ (map p6_made_up (0 ∷ 3 ∷ 7 ∷ 8 ∷ 9 ∷ []) gives 8 ∷ 5 ∷ 1 ∷ 0 ∷ 0 ∷ [])
    -- P8's pair, each byte of it stored four times, by the hardware's load and as a row of entries
    ∷ (map (p8_made_up 2) (0 ∷ 1 ∷ 2 ∷ []) gives 8 ∷ 4 ∷ 0 ∷ [])
    ∷ (map (p8_made_up 0) (0 ∷ 1 ∷ 2 ∷ []) gives 8 ∷ 4 ∷ 0 ∷ [])
    ∷ []

-- a block load of so many words whose source has two bytes, one of them zero, over some reasons, after a load of the number `last`
abbrev reasoned_block : List ℕ → ℕ → ℕ → Reason → ℕ → Outcome
reasoned_block reasons image words why last =
    block_call fresh fresh_written reasons (0 ∷ 2 ∷ []) (tile 0 2 0 0 0 0) image 0 words why last

-- an ordinary one, over none
abbrev cut_block : ℕ → ℕ → ℕ → Outcome
cut_block image words last = reasoned_block fresh_reasons image words ordinary last

-- the first bytes of the record that it leaves: those of addresses 0, 7 and 8
abbrev record_bytes : Outcome → List ℕ
record_bytes o =
    let m = get_or o.buffers 1 [] in
    bytes_at 0 2 m ++ bytes_at 14 4 m

unfoldable pub number_table : List Case
number_table =
    -- the call answers both counts and its number; where it refuses an image size of 4, zeros and the number passed
    (answers (cut_block 2 1 0) gives 0 ∷ 8 ∷ 6 ∷ 1 ∷ [])
    ∷ (answers (cut_block 4 1 0) gives 4 ∷ 0 ∷ 0 ∷ 0 ∷ [])
    -- the number that follows, at the first and the last address of the word and none after it
    ∷ (concat (map (λ last. record_bytes (cut_block 2 1 last)) (0 ∷ 1 ∷ 255 ∷ 256 ∷ []))
    gives 0 ∷ 1 ∷ 0 ∷ 1 ∷ 0 ∷ 0 ∷ 0 ∷ 2 ∷ 0 ∷ 2 ∷ 0 ∷ 0 ∷ 1 ∷ 0 ∷ 1 ∷ 0 ∷ 0 ∷ 0 ∷ 1 ∷ 1 ∷ 1 ∷ 1 ∷ 0 ∷ 0 ∷ [])
    ∷ (concat (map (λ last. record_bytes (cut_block 2 1 last)) (65533 ∷ 65534 ∷ 65535 ∷ []))
    gives 255 ∷ 254 ∷ 255 ∷ 254 ∷ 0 ∷ 0 ∷ 255 ∷ 255 ∷ 255 ∷ 255 ∷ 0 ∷ 0 ∷ 0 ∷ 0 ∷ 0 ∷ 0 ∷ 0 ∷ 0 ∷ [])
    ∷ (answers (cut_block 2 1 65533) gives 0 ∷ 8 ∷ 6 ∷ 65534 ∷ [])
    ∷ (answers (cut_block 2 1 65534) gives 0 ∷ 8 ∷ 6 ∷ 65535 ∷ [])
    ∷ (answers (cut_block 2 1 65535) gives 18 ∷ 0 ∷ 0 ∷ 65535 ∷ [])
    -- 4 is tested before 18
    ∷ (answers (cut_block 4 1 65535) gives 4 ∷ 0 ∷ 0 ∷ 65535 ∷ [])
    -- "A load that stores nothing still takes a number"
    ∷ (answers (cut_block 2 0 255) gives 0 ∷ 0 ∷ 0 ∷ 256 ∷ [])
    ∷ []

-- what such a load leaves of reasons that are 9 everywhere, at addresses 0, 7 and 8.
abbrev nines : List ℕ
nines = replicate reasons_size 9

abbrev reason_bytes : Reason → List ℕ
reason_bytes why =
    let m = get_or (reasoned_block nines 2 1 why 0).buffers 2 [] in
    bytes_at 0 1 m ++ bytes_at 7 2 m

unfoldable pub reason_table : List Case
reason_table =
    -- a rejected load "also leaves its reason at each address; an ordinary load clears it"
    (concat (map reason_bytes (ordinary ∷ rejected 1 ∷ rejected 255 ∷ [])) gives 0 ∷ 0 ∷ 9 ∷ 1 ∷ 1 ∷ 9 ∷ 255 ∷ 255 ∷ 9 ∷ [])
    -- it stores, counts and takes a number as any load does; "reason 0 or above 255" is refused, and leaves the reasons
    ∷ (answers (reasoned_block nines 2 1 (rejected 255) 0) gives 0 ∷ 8 ∷ 6 ∷ 1 ∷ [])
    ∷ (concat (map reason_bytes (rejected 0 ∷ rejected 256 ∷ [])) gives 9 ∷ 9 ∷ 9 ∷ 9 ∷ 9 ∷ 9 ∷ [])
    -- 19 is "tested after 4 .. and before 18"
    ∷ (answers (reasoned_block nines 4 1 (rejected 0) 65535) gives 4 ∷ 0 ∷ 0 ∷ 65535 ∷ [])
    ∷ (answers (reasoned_block nines 2 1 (rejected 0) 65535) gives 19 ∷ 0 ∷ 0 ∷ 65535 ∷ [])
    ∷ (answers (reasoned_block nines 2 1 (rejected 256) 0) gives 19 ∷ 0 ∷ 0 ∷ 0 ∷ [])
    ∷ (answers (reasoned_block nines 2 1 (rejected 255) 65535) gives 18 ∷ 0 ∷ 0 ∷ 65535 ∷ [])
    -- reasons of another length are refused
    ∷ (answers (reasoned_block (0 ∷ nines) 4 1 (rejected 0) 0) gives 1 ∷ 0 ∷ 0 ∷ 0 ∷ [])
    ∷ []

-- two entries of a table from four bytes, by the hardware's call and by the row call.
abbrev by_hardware_call : ℕ → ℕ → Outcome
by_hardware_call image rows =
    tlut_hardware_call fresh fresh_written fresh_reasons (counting 4) (tile 0 0 0 256 0 0) image 2 rows 0 ordinary 0

abbrev by_rows_call : ℕ → ℕ → Outcome
by_rows_call image rows =
    tlut_rows_call fresh fresh_written fresh_reasons (counting 4) (tile 0 0 0 256 0 0) image 2 rows 0 ordinary 0

-- a tile load of so many rows of no words
abbrev no_words : ℕ → Outcome
no_words rows = tile_call fresh fresh_written fresh_reasons [] (tile 0 2 0 0 0 0) 2 rows 0 0 ordinary 0

unfoldable pub call_table : List Case
call_table =
    -- at image size 1 a step of the hardware covers eight entries; the row call stores each, at rows 1 too
    (answers (by_hardware_call 1 1) gives 0 ∷ 8 ∷ 0 ∷ 1 ∷ [])
    ∷ (answers (by_rows_call 1 1) gives 0 ∷ 16 ∷ 0 ∷ 1 ∷ [])
    -- "The hardware call takes rows 1 and image sizes 1 to 3; the row call takes any size and rows in the old range"
    ∷ (map (λ rows. (by_hardware_call 2 rows).refusal) (0 ∷ 1 ∷ 2 ∷ []) gives 4 ∷ 0 ∷ 4 ∷ [])
    ∷ (map (λ image. (by_hardware_call image 1).refusal) (0 ∷ 1 ∷ 3 ∷ 4 ∷ []) gives 4 ∷ 0 ∷ 0 ∷ 4 ∷ [])
    ∷ (map (λ rows. (by_rows_call 2 rows).refusal) (0 ∷ 1 ∷ 2 ∷ 1025 ∷ []) gives 4 ∷ 0 ∷ 0 ∷ 4 ∷ [])
    ∷ (map (λ image. (by_rows_call image 1).refusal) (0 ∷ 3 ∷ 4 ∷ []) gives 0 ∷ 0 ∷ 4 ∷ [])
    -- item 12 raised no load: a tile load takes 1,024 rows, as before
    ∷ (map (λ rows. (no_words rows).refusal) (1024 ∷ 1025 ∷ []) gives 0 ∷ 4 ∷ [])
    ∷ []
