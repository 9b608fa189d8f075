-- Document 02's item 13: offered keys checked, worked. `Rattle.rules.proofs.CheckWorked` proves every row.
use Rattle.std.specs.Prelude.{List, [], ◌∷◌, ℕ, set, replicate}
use Rattle.rules.specs.Tile.{Tile, bank_size}
use Rattle.rules.specs.Calls.{check_call}
use Rattle.rules.specs.Picture.{picture}
use Rattle.rules.specs.Key.{key_of}
use Rattle.rules.specs.Worked.{Case, ◌gives◌, answers, fresh, tile}
use Rattle.rules.specs.WallsWorked.{wall}

-- I8, one texel: address 0 is kept and no other
abbrev i8_one : Tile
i8_one = tile 4 1 0 0 1 1

-- what the check says of an offer that has one byte and else zeros, for a bank that has one byte at address 0 and else zeros
abbrev offered : ℕ → ℕ → ℕ → List ℕ
offered in_bank at byte = answers (check_call (set fresh 0 in_bank) i8_one 0 0 (set fresh at byte))

-- a bank of nines
abbrev nines : List ℕ
nines = replicate bank_size 9

unfoldable pub check_table : List Case
check_table =
    -- a zero bank: the key is zeros; 5 at the kept address is another value, and at any other it is left over, the last one too
    (offered 0 0 0 gives 0 ∷ 1 ∷ 0 ∷ 0 ∷ [])
    ∷ (offered 0 0 5 gives 0 ∷ 0 ∷ 0 ∷ 3 ∷ [])
    ∷ (offered 0 1 5 gives 0 ∷ 0 ∷ 1 ∷ 2 ∷ [])
    ∷ (offered 0 4095 5 gives 0 ∷ 0 ∷ 4095 ∷ 2 ∷ [])
    -- a bank that has 7 there: 7 is right, 5 is another value and 0 is missing; the lowest wrong address is named
    ∷ (offered 7 0 7 gives 0 ∷ 1 ∷ 0 ∷ 0 ∷ [])
    ∷ (offered 7 0 5 gives 0 ∷ 0 ∷ 0 ∷ 3 ∷ [])
    ∷ (offered 7 9 5 gives 0 ∷ 0 ∷ 0 ∷ 1 ∷ [])
    -- a wall's key from before item 4 is left over where the wall repeats
    ∷ (answers (check_call nines (wall 0) 0 0 (key_of (picture (wall 0) 0 0) nines)) gives 0 ∷ 0 ∷ 2 ∷ 2 ∷ [])
    -- as for the key, 1 tests the offer's length too
    ∷ (answers (check_call fresh i8_one 4 0 (0 ∷ fresh)) gives 1 ∷ 0 ∷ 0 ∷ 0 ∷ [])
    ∷ (answers (check_call fresh i8_one 4 0 fresh) gives 3 ∷ 0 ∷ 0 ∷ 0 ∷ [])
    ∷ []
