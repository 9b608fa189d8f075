-- The four calls as one: the lookup or the plain picture, with a trail or without.
use Rattle.std.specs.Prelude.{Bool, true, false, ◌&&◌, List, [], ◌∷◌, ℕ, ◌*◌, ◌/◌, ltb, length}
use Rattle.rules.specs.Tile.{Tile, bank_size}
use Rattle.rules.specs.Base.{over}
use Rattle.rules.specs.Reading.{Reading, given, trail}
use Rattle.rules.specs.Picture.{plain, lookup}
use Rattle.rules.specs.Refusal.{Test, ◌if◌, Outcome, call}
use Rattle.rules.specs.Calls.{not_bytes, pair_tests, short_picture, picture_tests, observed_tests, observed_call}
use Rattle.decoder.specs.Sizes.{texels_by}

-- the picture that is asked for
abbrev pub reading_by : Bool → Tile → ℕ → ℕ → Reading
reading_by true t mode lane = lookup t mode lane
reading_by false t mode lane = plain t mode lane

-- the tests before the buffers'
abbrev pub early_tests : List ℕ → Tile → ℕ → ℕ → List Test
early_tests bank t mode lane = (1 if not_bytes bank_size bank) ∷ pair_tests t mode lane

-- the buffers' tests, with the reads of a texel
abbrev pub room_tests : Bool → ℕ → ℕ → List ℕ → List ℕ → List Test
room_tests observe texels each out seen =
    short_picture texels out ∷ (7 if (observe && ltb (length seen / 2) (each * texels))) ∷ []

-- the call's tests
abbrev pub tests_by : Bool → Bool → List ℕ → Tile → ℕ → ℕ → List ℕ → List ℕ → List Test
tests_by true looked bank t mode lane out seen =
    observed_tests bank t mode lane (texels_by looked t) (reading_by looked t mode lane) out seen
tests_by false looked bank t mode lane out seen = picture_tests bank t mode lane (texels_by looked t) out

-- a picture whose trail is not asked for: what was lent for it stays as it was
unfoldable pub untold_call : Reading → ℕ → List ℕ → Tile → ℕ → ℕ → List ℕ → List ℕ → Outcome
untold_call r count bank t mode lane out seen =
    call (picture_tests bank t mode lane count out)
    (length (trail r bank) ∷ [])
    (over (given r bank) out ∷ seen ∷ [])
    (out ∷ seen ∷ [])

-- the call's outcome, with picture and trail as it leaves them
abbrev pub outcome_by : Bool → Bool → List ℕ → Tile → ℕ → ℕ → List ℕ → List ℕ → Outcome
outcome_by true looked bank t mode lane out seen =
    observed_call (reading_by looked t mode lane) (texels_by looked t) bank t mode lane out seen
outcome_by false looked bank t mode lane out seen =
    untold_call (reading_by looked t mode lane) (texels_by looked t) bank t mode lane out seen
