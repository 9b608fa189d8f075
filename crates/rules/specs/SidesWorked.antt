-- Document 02's item 12: sides up to 4,096, worked. `Rattle.rules.proofs.SidesWorked` proves every row.
use Rattle.std.specs.Prelude.{List, [], ◌∷◌, map, ℕ}
use Rattle.rules.specs.Sampling.{flag}
use Rattle.rules.specs.Calls.{sampling_call}
use Rattle.rules.specs.Picture.{row_start}
use Rattle.rules.specs.Lister.{line_to}
use Rattle.rules.specs.Worked.{Case, ◌gives◌, fresh, tile, flags}

unfoldable pub side_table : List Case
side_table =
    -- "Raise width and height to 4,096": each is taken to there, and refused past it
    (map (λ side. (sampling_call (tile 4 1 2 0 side 1) 0).refusal) (1024 ∷ 1025 ∷ 4096 ∷ 4097 ∷ []) gives 0 ∷ 0 ∷ 0 ∷ 2 ∷ [])
    ∷ (map (λ side. (sampling_call (tile 4 1 2 0 1 side) 0).refusal) (1024 ∷ 1025 ∷ 4096 ∷ 4097 ∷ []) gives 0 ∷ 0 ∷ 0 ∷ 2 ∷ [])
    -- "A lister from before this change refuses the new ones with 2"
    ∷ (map (λ side. (line_to 1024 (tile 4 1 2 0 side 0) 0 fresh).refusal) (1024 ∷ 1025 ∷ 4096 ∷ []) gives 0 ∷ 2 ∷ 2 ∷ [])
    ∷ (map (λ side. (line_to 1024 (tile 4 1 2 0 0 side) 0 fresh).refusal) (1024 ∷ 1025 ∷ 4096 ∷ []) gives 0 ∷ 2 ∷ 2 ∷ [])
    -- a tall picture's flag goes by 256, and its rows repeat every 256, as before
    ∷ (flags (flag (tile 4 1 1 0 0 4096) 0) (flag (tile 4 1 2 0 0 4096) 0) (flag (tile 4 1 1 0 0 4096) 2) gives 1 ∷ 0 ∷ 0 ∷ [])
    ∷ (map (row_start (tile 4 1 2 0 1 4096)) (1 ∷ 257 ∷ 4095 ∷ []) gives 16 ∷ 16 ∷ 4080 ∷ [])
    ∷ []
