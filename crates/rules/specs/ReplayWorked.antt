-- Document 02's item 1: a replay worked. `Rattle.rules.proofs.ReplayWorked` proves every row.
use Rattle.std.specs.Prelude.{List, [], ◌∷◌, ◌++◌, ℕ, replicate}
use Rattle.rules.specs.Base.{concat}
use Rattle.rules.specs.Tile.{fresh_written, fresh_reasons}
use Rattle.rules.specs.Replay.{fresh as start, carried, in_file, replayed, lines, records_in, replay_text}
use Rattle.rules.specs.Worked.{Case, ◌gives◌, fresh, bytes_at}

-- a record of a kind, the lister's sixteen bytes, the six numbers of two bytes, and offset and length; the ten ignored bytes are 255
abbrev replay_record : ℕ → List ℕ → List ℕ → List ℕ → List ℕ
replay_record kind tile numbers place = kind ∷ 0 ∷ (tile ++ numbers ++ place ++ replicate 10 255)

-- the key of CI8, 2 by 1, in mode 2
abbrev key_record : List ℕ
key_record = replay_record 3 (2 ∷ 1 ∷ 0 ∷ 2 ∷ (replicate 9 0 ++ (2 ∷ 0 ∷ 1 ∷ []))) (replicate 12 255) (replicate 8 255)

-- a block of one word into the bank's start
abbrev block_record : List ℕ → List ℕ
block_record place = replay_record 0 (0 ∷ 2 ∷ replicate 14 0) (0 ∷ 2 ∷ 0 ∷ 0 ∷ 0 ∷ 1 ∷ replicate 6 0) place

-- an unknown kind with a field outside its range, a key, a length of 65,537 that also ends past the file, an offset of 2^32 - 1 with a
-- length of 1, the second and third byte of the file, the key again, and a torn tail
abbrev replay_input : List ℕ
replay_input =
    replay_record 7 (replicate 16 255) (replicate 12 0) (replicate 8 0)
    ++ key_record
    ++ block_record (0 ∷ 0 ∷ 0 ∷ 9 ∷ 0 ∷ 1 ∷ 0 ∷ 1 ∷ [])
    ++ block_record (255 ∷ 255 ∷ 255 ∷ 255 ∷ 0 ∷ 0 ∷ 0 ∷ 1 ∷ [])
    ++ block_record (0 ∷ 0 ∷ 0 ∷ 1 ∷ 0 ∷ 0 ∷ 0 ∷ 2 ∷ [])
    ++ key_record
    ++ (0 ∷ [])

abbrev companion : List ℕ
companion = 1 ∷ 2 ∷ 3 ∷ 9 ∷ []

unfoldable pub replay_table : List Case
replay_table =
    -- the replay's lines, "10 0", "0 4", "4 0", "11 0", "0 8", "0 6", "8 0", and the bank's first word after them
    (concat (lines (in_file companion) (records_in replay_input) start)
    gives 10 ∷ 0 ∷ 0 ∷ 4 ∷ 4 ∷ 0 ∷ 11 ∷ 0 ∷ 0 ∷ 8 ∷ 0 ∷ 6 ∷ 8 ∷ 0 ∷ [])
    ∷ (bytes_at 0 8 (replayed (in_file companion) (records_in replay_input) start).bank gives 2 ∷ 3 ∷ 0 ∷ 0 ∷ 0 ∷ 0 ∷ 0 ∷ 0 ∷ [])
    -- its one load has the number 1
    ∷ ((replayed (in_file companion) (records_in replay_input) start).last ∷ [] gives 1 ∷ [])
    -- after 65,535 loads it is refused, "18 0", and the keys go on
    ∷ (concat (lines (in_file companion) (records_in replay_input) (carried fresh fresh_written fresh_reasons 65535))
    gives 10 ∷ 0 ∷ 0 ∷ 4 ∷ 4 ∷ 0 ∷ 11 ∷ 0 ∷ 18 ∷ 0 ∷ 0 ∷ 4 ∷ 8 ∷ 0 ∷ [])
    -- a torn tail alone prints "8 0"
    ∷ (replay_text companion (0 ∷ []) gives 56 ∷ 32 ∷ 48 ∷ 10 ∷ [])
    ∷ []
