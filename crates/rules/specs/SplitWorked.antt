-- Splits worked. `Rattle.rules.proofs.SplitWorked` proves every row.
use Rattle.std.specs.Prelude.{List, [], ◌∷◌, ◌++◌, map, ℕ, length, get_or, take, replicate}
use Rattle.rules.specs.Base.{tab, concat}
use Rattle.rules.specs.Worked.{Case, ◌gives◌, answer}
use Rattle.rules.specs.Split.{entry_limit, body_at, first_of, sides, split_call}

-- the sides of entries whose bodies are a number each
abbrev sides_of : List ℕ → List ℕ
sides_of l = sides (λ i. get_or l i 0 ∷ []) (length l)

-- an entry with a capture number, and a body that has the byte b last and zeros before
abbrev entry : ℕ → ℕ → List ℕ
entry n b = 0 ∷ 0 ∷ 0 ∷ n ∷ (replicate 4112 0 ++ (b ∷ []))

-- the first entry with the body of each, of entries with these last bytes
abbrev firsts : List ℕ → List ℕ
firsts l = tab (length l) (first_of (body_at (concat (map (λ b. entry b b) l))))

-- splitting entries whose bodies have these bytes first and zeros after, and a side buffer of nines
abbrev splitting : List ℕ → List ℕ
splitting l = answer (split_call (length l) (concat (map (λ b. 0 ∷ 0 ∷ 0 ∷ b ∷ b ∷ replicate 4112 0) l)) (replicate (length l) 9))

unfoldable pub split_table : List Case
split_table =
    -- "of every five groups in order of first entry, the fifth is held out"
    (sides_of (1 ∷ 2 ∷ 3 ∷ 4 ∷ 5 ∷ 6 ∷ 7 ∷ 8 ∷ 9 ∷ 10 ∷ 11 ∷ []) gives 0 ∷ 0 ∷ 0 ∷ 0 ∷ 1 ∷ 0 ∷ 0 ∷ 0 ∷ 0 ∷ 1 ∷ 0 ∷ [])
    -- an entry that joins a group takes no turn, and has the side of the group's first
    ∷ (sides_of (1 ∷ 1 ∷ 2 ∷ 1 ∷ 3 ∷ 4 ∷ 2 ∷ 5 ∷ 5 ∷ 1 ∷ 6 ∷ 5 ∷ []) gives 0 ∷ 0 ∷ 0 ∷ 0 ∷ 0 ∷ 0 ∷ 0 ∷ 1 ∷ 1 ∷ 0 ∷ 0 ∷ 1 ∷ [])
    -- bodies that differ in their last byte
    ∷ (firsts (1 ∷ 2 ∷ 2 ∷ []) gives 0 ∷ 1 ∷ 1 ∷ [])
    -- the totals, of entries and not of groups
    ∷ (splitting (1 ∷ 2 ∷ 2 ∷ 3 ∷ 4 ∷ 5 ∷ 5 ∷ []) gives 0 ∷ 5 ∷ 2 ∷ 0 ∷ 0 ∷ 0 ∷ 0 ∷ 0 ∷ 1 ∷ 1 ∷ [])
    -- a body has no byte of the capture number
    ∷ (take 2 (body_at (entry 7 8 ++ (9 ∷ 9 ∷ 9 ∷ 9 ∷ 5 ∷ 6 ∷ [])) 1) gives 5 ∷ 6 ∷ [])
    ∷ (answer (split_call 2 (entry 1 0 ++ entry 2 0) (9 ∷ 9 ∷ [])) gives 0 ∷ 2 ∷ 0 ∷ 0 ∷ 0 ∷ [])
    -- no entries
    ∷ (answer (split_call 0 [] []) gives 0 ∷ 0 ∷ 0 ∷ [])
    -- 16 before 17
    ∷ (answer (split_call 4097 [] (9 ∷ [])) gives 16 ∷ 0 ∷ 0 ∷ 9 ∷ [])
    ∷ (answer (split_call entry_limit [] (9 ∷ [])) gives 17 ∷ 0 ∷ 0 ∷ 9 ∷ [])
    -- a byte too few or too many, in either buffer
    ∷ (answer (split_call 1 (replicate 4116 1) (9 ∷ [])) gives 17 ∷ 0 ∷ 0 ∷ 9 ∷ [])
    ∷ (answer (split_call 1 (replicate 4118 1) (9 ∷ [])) gives 17 ∷ 0 ∷ 0 ∷ 9 ∷ [])
    ∷ (answer (split_call 1 (replicate 4117 1) []) gives 17 ∷ 0 ∷ 0 ∷ [])
    ∷ (answer (split_call 1 (replicate 4117 1) (9 ∷ 9 ∷ [])) gives 17 ∷ 0 ∷ 0 ∷ 9 ∷ 9 ∷ [])
    ∷ (answer (split_call 1 (replicate 4117 1) (9 ∷ [])) gives 0 ∷ 1 ∷ 0 ∷ 0 ∷ [])
    ∷ []
