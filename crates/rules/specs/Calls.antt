-- Every public call, on every input: its refusals in order, its answer, and the lent buffers as it leaves them.
use Rattle.std.specs.Prelude.{◌≡◌, Bool, not, ◌||◌, List, [], ◌∷◌, ◌++◌, ℕ, ◌*◌, ◌/◌, eqb, ltb, length}
use Rattle.rules.specs.Base.{one, over}
use Rattle.rules.specs.Refusal.{Test, ◌if◌, Outcome, call, call_or}
use Rattle.rules.specs.Tile.{Tile, bank_size, map_size, written_size, reasons_size, lane_map_size}
use Rattle.rules.specs.Tile.{side_limit, load_fields_outside, linear_fields_outside, tile_outside_to, mode_outside, lane_outside}
use Rattle.rules.specs.Texdec.{accepted}
use Rattle.rules.specs.Sampling.{flag, extent_width, extent_height, lookup_texels}
use Rattle.rules.specs.Load.{Store, load_tile, block_stores, tile_stores, hardware_stores, row_stores, stored, written, following, made_up}
use Rattle.rules.specs.Load.{Reason, reason_outside, reason_left, reasoned}
use Rattle.rules.specs.Reading.{Reading, given, trail, encoded}
use Rattle.rules.specs.Picture.{plain, lookup}
use Rattle.rules.specs.Linear.{linear_pair, linear}
use Rattle.rules.specs.Reach.{reach_map, has_load, rejection, lane_map}
use Rattle.rules.specs.Key.{key, kept_count}
use Rattle.rules.specs.Check.{checked}

-- The tests, by their numbers. "Number 9 is not given out again."

-- "a lent bank or key is not 4,096 bytes, a .. reach map not 512, or a lane map not 32"; the written map "becomes 8,192 bytes ..; refusal
-- 1 now tests that length"; of the reasons "refusal 1 tests its length too"
abbrev pub not_bytes : ℕ → List ℕ → Bool
not_bytes n lent = not (eqb (length lent) n)

-- "a tile field is outside its range", where the sides go up to a limit, and to this one
abbrev pub bad_tile_to : ℕ → Tile → Test
bad_tile_to limit t = 2 if tile_outside_to limit t

abbrev pub bad_tile : Tile → Test
bad_tile t = bad_tile_to side_limit t

-- "mode or lane is above 3"
abbrev pub bad_mode : ℕ → Test
bad_mode mode = 3 if mode_outside mode

abbrev pub bad_lane : ℕ → Test
bad_lane lane = 3 if lane_outside lane

-- "a load number or the source's length is outside its range": "image size 0..3; block words 0..2,048 and dxt 0..4,095;
-- tile rows 0..1,024 and words a row 0..512; TLUT count 0..1,024 and rows 1..1,024; source stride 0..65,535. The loaded
-- source has 0 to 65,536 bytes"
abbrev pub source_outside : ℕ → ℕ → Bool
source_outside size image = ltb 65536 size || ltb 3 image

abbrev pub block_outside : ℕ → ℕ → Bool
block_outside dxt words = ltb 4095 dxt || ltb 2048 words

abbrev pub tile_load_outside : ℕ → ℕ → ℕ → Bool
tile_load_outside rows words stride = ltb 1024 rows || ltb 512 words || ltb 65535 stride

abbrev pub tlut_outside : ℕ → ℕ → ℕ → Bool
tlut_outside count rows stride = ltb 1024 count || eqb rows 0 || ltb 1024 rows || ltb 65535 stride

-- document 02's item 9: "The hardware call takes rows 1 and image sizes 1 to 3"; "4 covers the narrower ranges of the hardware call"
abbrev pub hardware_outside : ℕ → ℕ → ℕ → ℕ → Bool
hardware_outside image count rows stride = eqb image 0 || ltb 1024 count || not (eqb rows 1) || ltb 65535 stride

-- "the pair is not accepted (pictures, lookups, keys)"
abbrev pub bad_pair : Tile → ℕ → Test
bad_pair t mode = 5 if not (accepted mode t.fmt t.siz)

-- the tests of a lent bank, written map and reasons stand before all others of the calls that take them
abbrev pub lent_tests : List ℕ → List ℕ → List ℕ → List Test → List Test
lent_tests bank map reasons l =
    (1 if not_bytes bank_size bank) ∷ (1 if not_bytes written_size map) ∷ (1 if not_bytes reasons_size reasons) ∷ l

-- the three have their lengths
pub record AllLent (bank map reasons : List ℕ) : Type 0 where
  pub whole_bank : length bank ≡ bank_size
  pub whole_map : length map ≡ written_size
  pub whole_reasons : length reasons ≡ reasons_size

-- "18, the 65,536th load (any number passed above 65,534), tested last"
abbrev pub number_spent : ℕ → Bool
number_spent last = ltb 65534 last

-- "19, reason 0 or above 255, tested after 4 and 11 and before 18"
abbrev pub bad_reason : Reason → Test
bad_reason why = 19 if reason_outside why

-- Loads, ordinary and rejected: bank, written map and reasons are lent. The tests of a load's numbers, for a source of `size` bytes, stand
-- before those that a caller may add.
abbrev pub number_tests : ℕ → Tile → ℕ → Bool → List Test → List Test
number_tests size t image outside l = (2 if load_fields_outside t) ∷ (4 if source_outside size image) ∷ (4 if outside) ∷ l

abbrev pub load_tests : List ℕ → List ℕ → List ℕ → List ℕ → Tile → ℕ → Bool → Reason → ℕ → List Test
load_tests bank map reasons src t image outside why last =
    lent_tests bank map reasons (number_tests (length src) t image outside (bad_reason why ∷ (18 if number_spent last) ∷ []))

-- what a load of that number leaves in the three buffers: "A rejected load stores and marks as any load does and also leaves its reason"
abbrev pub left_by : List ℕ → List Store → ℕ → Reason → List ℕ → List ℕ → List ℕ → List (List ℕ)
left_by src l number why bank map reasons = stored src l bank ∷ written number l map ∷ reasoned (reason_left why) l reasons ∷ []

-- The count of stores is answered, how many of their bytes were made up, and the load's number. "A load that stores nothing still takes a
-- number; a refused one takes none and hands back the number passed." `last` is "the last number given".
abbrev pub loaded : List Test → List Store → List ℕ → List ℕ → List ℕ → List ℕ → Reason → ℕ → Outcome
loaded tests l bank map reasons src why last =
    call_or tests
    (length l ∷ made_up (length src) l ∷ following last ∷ [])
    (0 ∷ 0 ∷ last ∷ [])
    (left_by src l (following last) why bank map reasons)
    (bank ∷ map ∷ reasons ∷ [])

unfoldable pub block_call : List ℕ → List ℕ → List ℕ → List ℕ → Tile → ℕ → ℕ → ℕ → Reason → ℕ → Outcome
block_call bank map reasons src t image dxt words why last =
    loaded (load_tests bank map reasons src t image (block_outside dxt words) why last)
    (block_stores (load_tile t) image dxt words) bank map reasons src why last

unfoldable pub tile_call : List ℕ → List ℕ → List ℕ → List ℕ → Tile → ℕ → ℕ → ℕ → ℕ → Reason → ℕ → Outcome
tile_call bank map reasons src t image rows words stride why last =
    loaded (load_tests bank map reasons src t image (tile_load_outside rows words stride) why last)
    (tile_stores (load_tile t) image rows words stride) bank map reasons src why last

-- "the hardware path, and the defined extension for several rows or image size 0. .. Make them two public calls"
unfoldable pub tlut_hardware_call : List ℕ → List ℕ → List ℕ → List ℕ → Tile → ℕ → ℕ → ℕ → ℕ → Reason → ℕ → Outcome
tlut_hardware_call bank map reasons src t image count rows stride why last =
    loaded (load_tests bank map reasons src t image (hardware_outside image count rows stride) why last)
    (hardware_stores (load_tile t) image count) bank map reasons src why last

-- "the row call takes any size and rows in the old range"
unfoldable pub tlut_rows_call : List ℕ → List ℕ → List ℕ → List ℕ → Tile → ℕ → ℕ → ℕ → ℕ → Reason → ℕ → Outcome
tlut_rows_call bank map reasons src t image count rows stride why last =
    loaded (load_tests bank map reasons src t image (tlut_outside count rows stride) why last)
    (row_stores (load_tile t) count rows stride) bank map reasons src why last

-- The sampling record: flag and allocation extent.
abbrev pub sampling_tests : Tile → ℕ → List Test
sampling_tests t mode = bad_tile t ∷ bad_mode mode ∷ []

unfoldable pub sampling_call : Tile → ℕ → Outcome
sampling_call t mode =
    call (sampling_tests t mode) (one (flag t mode) ∷ extent_width t mode ∷ extent_height t mode ∷ []) [] []

-- Reach, has-load, the question for a reason and the lane check.
abbrev pub map_tests : ℕ → List ℕ → Tile → ℕ → List Test
map_tests size map t mode = (1 if not_bytes size map) ∷ sampling_tests t mode

unfoldable pub reach_call : Tile → ℕ → List ℕ → Outcome
reach_call t mode map = call (map_tests map_size map t mode) [] (reach_map t mode ∷ []) (map ∷ [])

unfoldable pub has_load_call : Tile → ℕ → List ℕ → Outcome
has_load_call t mode map = call (map_tests written_size map t mode) (one (has_load t mode map) ∷ []) [] []

-- "Reasons are a lent map .., 0 for none": the question answers 0 where there is none
unfoldable pub rejection_call : Tile → ℕ → List ℕ → Outcome
rejection_call t mode reasons = call (map_tests reasons_size reasons t mode) (rejection t mode reasons ∷ []) [] []

abbrev pub lane_tests : List ℕ → List ℕ → List Test
lane_tests bank map = (1 if not_bytes bank_size bank) ∷ (1 if not_bytes lane_map_size map) ∷ []

unfoldable pub lane_call : List ℕ → List ℕ → Outcome
lane_call bank map = call (lane_tests bank map) [] (lane_map bank ∷ []) (map ∷ [])

-- Pictures. The tests before the buffers', and then the buffers' own.
abbrev pub pair_tests_to : ℕ → Tile → ℕ → ℕ → List Test
pair_tests_to limit t mode lane = bad_tile_to limit t ∷ bad_mode mode ∷ bad_lane lane ∷ bad_pair t mode ∷ []

abbrev pub pair_tests : Tile → ℕ → ℕ → List Test
pair_tests t mode lane = pair_tests_to side_limit t mode lane

-- "the picture buffer is shorter than 4 bytes a texel"
abbrev pub short_picture : ℕ → List ℕ → Test
short_picture count out = 6 if ltb (length out) (4 * count)

-- "the trail is shorter than the count of reads"; two bytes an address, "an odd last byte is left unused"
abbrev pub short_trail : Reading → List ℕ → List ℕ → Test
short_trail r bank seen = 7 if ltb (length seen / 2) (length (trail r bank))

abbrev pub picture_tests : List ℕ → Tile → ℕ → ℕ → ℕ → List ℕ → List Test
picture_tests bank t mode lane count out =
    (1 if not_bytes bank_size bank) ∷ pair_tests t mode lane ++ (short_picture count out ∷ [])

abbrev pub observed_tests : List ℕ → Tile → ℕ → ℕ → ℕ → Reading → List ℕ → List ℕ → List Test
observed_tests bank t mode lane count r out seen =
    (1 if not_bytes bank_size bank) ∷ pair_tests t mode lane ++ (short_picture count out ∷ short_trail r bank seen ∷ [])

-- the picture of a reading alone, and with its trail; the count of reads is answered
unfoldable pub picture_call : Reading → ℕ → List ℕ → Tile → ℕ → ℕ → List ℕ → Outcome
picture_call r count bank t mode lane out =
    call (picture_tests bank t mode lane count out) (length (trail r bank) ∷ []) (over (given r bank) out ∷ []) (out ∷ [])

unfoldable pub observed_call : Reading → ℕ → List ℕ → Tile → ℕ → ℕ → List ℕ → List ℕ → Outcome
observed_call r count bank t mode lane out seen =
    call (observed_tests bank t mode lane count r out seen)
    (length (trail r bank) ∷ [])
    (over (given r bank) out ∷ over (encoded (trail r bank)) seen ∷ [])
    (out ∷ seen ∷ [])

abbrev pub plain_texels : Tile → ℕ
plain_texels t = t.width * t.height

-- "Either picture can be asked for of any tile"
abbrev pub sample_tile_call : List ℕ → Tile → ℕ → ℕ → List ℕ → Outcome
sample_tile_call bank t mode lane out = picture_call (plain t mode lane) (plain_texels t) bank t mode lane out

abbrev pub sample_tile_observed_call : List ℕ → Tile → ℕ → ℕ → List ℕ → List ℕ → Outcome
sample_tile_observed_call bank t mode lane out seen = observed_call (plain t mode lane) (plain_texels t) bank t mode lane out seen

abbrev pub sampling_lookup_call : List ℕ → Tile → ℕ → ℕ → List ℕ → Outcome
sampling_lookup_call bank t mode lane out = picture_call (lookup t mode lane) lookup_texels bank t mode lane out

abbrev pub sampling_lookup_observed_call : List ℕ → Tile → ℕ → ℕ → List ℕ → List ℕ → Outcome
sampling_lookup_observed_call bank t mode lane out seen = observed_call (lookup t mode lane) lookup_texels bank t mode lane out seen

-- Document 02's item 11: the linear decoding of a source, without a bank; the count of reads is answered. Its source and stride have the
-- ranges of a load's, and a pair that is not accepted in mode 0, or is (2,3), has no linear decoding.
abbrev pub linear_outside : ℕ → ℕ → Bool
linear_outside size stride = ltb 65536 size || ltb 65535 stride

abbrev pub linear_tests : List ℕ → Tile → ℕ → List ℕ → List Test
linear_tests src t stride out =
    (2 if linear_fields_outside t)
    ∷ (4 if linear_outside (length src) stride)
    ∷ (5 if not (linear_pair t.fmt t.siz))
    ∷ short_picture (plain_texels t) out
    ∷ []

unfoldable pub linear_call : List ℕ → Tile → ℕ → List ℕ → Outcome
linear_call src t stride out =
    call (linear_tests src t stride out)
    (length (trail (linear t stride) src) ∷ [])
    (over (given (linear t stride) src) out ∷ [])
    (out ∷ [])

-- The key: bank and key are lent, and the kept count is answered.
abbrev pub key_tests : List ℕ → Tile → ℕ → ℕ → List ℕ → List Test
key_tests bank t mode lane out =
    (1 if not_bytes bank_size bank) ∷ (1 if not_bytes bank_size out) ∷ pair_tests t mode lane

unfoldable pub key_call : List ℕ → Tile → ℕ → ℕ → List ℕ → Outcome
key_call bank t mode lane out =
    call (key_tests bank t mode lane out) (kept_count t mode lane bank ∷ []) (key t mode lane bank ∷ []) (out ∷ [])

-- The check of an offered key: bank and offer are lent to be read. "Refusals: 1, 2, 3 and 5 as for the key itself, in that order."
unfoldable pub check_call : List ℕ → Tile → ℕ → ℕ → List ℕ → Outcome
check_call bank t mode lane offer = call (key_tests bank t mode lane offer) (checked t mode lane bank offer) [] []
