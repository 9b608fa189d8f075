-- The replay of a capture's loads, document 02's item 1: records of 48 bytes in, a line each out, over a bank, a written map, reasons and
-- the last load's number, which are carried from record to record.
use Rattle.std.specs.Prelude.{Bool, cond, not, ◌&&◌, ◌||◌, List, [], ◌∷◌, ◌++◌, ℕ, suc, ◌+◌, ◌-◌, ◌*◌, ◌/◌, eqb, ltb, length, get_or}
use Rattle.std.specs.Prelude.{take, drop}
use Rattle.rules.specs.Base.{tab, record_of, over}
use Rattle.rules.specs.Tile.{Tile, fresh_bank, fresh_written, fresh_reasons}
use Rattle.rules.specs.Load.{Store, load_tile, block_stores, tile_stores, tlut_stores, following, ordinary}
use Rattle.rules.specs.Key.{kept_count}
use Rattle.rules.specs.Refusal.{Test, ◌if◌, Outcome, first, call_or}
use Rattle.rules.specs.Calls.{lent_tests, number_spent, number_tests, left_by, pair_tests}
use Rattle.rules.specs.Calls.{block_outside, tile_load_outside, tlut_outside}
use Rattle.rules.specs.Lister.{byte, two, record_tile, record_mode, line_text}

-- "records of 48 bytes without a header"
abbrev pub replay_size : ℕ
replay_size = 48

-- "Byte 0 is the kind (0 block, 1 tile, 2 TLUT, 3 ask for a picture's key), byte 1 the lane, 2 to 17 the lister's sixteen bytes."
abbrev pub kind_in : List ℕ → ℕ
kind_in r = byte r 0

abbrev pub lane_in : List ℕ → ℕ
lane_in r = byte r 1

abbrev pub tile_in : List ℕ → Tile
tile_in r = record_tile (drop 2 r)

abbrev pub mode_in : List ℕ → ℕ
mode_in r = record_mode (drop 2 r)

-- "Then, big end first: image size, dxt, words, rows, count and stride, two bytes each; offset and length of the source in one
-- companion file, four bytes each; ten bytes that are ignored"
abbrev pub image_in : List ℕ → ℕ
image_in r = two r 18

abbrev pub dxt_in : List ℕ → ℕ
dxt_in r = two r 20

abbrev pub words_in : List ℕ → ℕ
words_in r = two r 22

abbrev pub rows_in : List ℕ → ℕ
rows_in r = two r 24

abbrev pub count_in : List ℕ → ℕ
count_in r = two r 26

abbrev pub stride_in : List ℕ → ℕ
stride_in r = two r 28

abbrev pub four : List ℕ → ℕ → ℕ
four r k = two r k * 65536 + two r (k + 2)

abbrev pub offset_in : List ℕ → ℕ
offset_in r = four r 30

abbrev pub size_in : List ℕ → ℕ
size_in r = four r 34

-- the record asks for a key
abbrev pub asks_key : List ℕ → Bool
asks_key r = eqb (kind_in r) 3

-- what is chosen by a load's kind: block, tile, or TLUT
abbrev pub by_kind : {A : Type 0} → List ℕ → A → A → A → A
by_kind r block tile tlut = cond (eqb (kind_in r) 0) block (cond (eqb (kind_in r) 1) tile tlut)

-- a load's stores, and whether one of the numbers of its kind is outside its range; "ignored, as is any field its kind has no use for"
unfoldable pub stores_in : List ℕ → List Store
stores_in r =
    let t = load_tile (tile_in r) in
    by_kind r
    (block_stores t (image_in r) (dxt_in r) (words_in r))
    (tile_stores t (image_in r) (rows_in r) (words_in r) (stride_in r))
    (tlut_stores t (image_in r) (count_in r) (rows_in r) (stride_in r))

unfoldable pub outside_in : List ℕ → Bool
outside_in r =
    by_kind r
    (block_outside (dxt_in r) (words_in r))
    (tile_load_outside (rows_in r) (words_in r) (stride_in r))
    (tlut_outside (count_in r) (rows_in r) (stride_in r))

-- "11, offset plus length beyond the companion file", which has `end` bytes
abbrev pub beyond : ℕ → List ℕ → Test
beyond end r = 11 if ltb end (offset_in r + size_in r)

-- "10, unknown kind, tested before all tile fields; 11 .. tested next after 4"; a torn record gets 8
unfoldable pub record_tests : ℕ → List ℕ → List Test
record_tests end r =
    (8 if ltb (length r) replay_size)
    ∷ (10 if ltb 3 (kind_in r))
    ∷ cond (asks_key r)
    (pair_tests (tile_in r) (mode_in r) (lane_in r))
    (number_tests (size_in r) (tile_in r) (image_in r) (outside_in r) (beyond end r ∷ []))

-- what is carried from record to record; "The bank starts fresh", and loads are "counted from 1 since the fresh state"
pub record Carried : Type 0 where
  pub bank : List ℕ
  pub map : List ℕ
  pub reasons : List ℕ
  pub last : ℕ

abbrev pub carried : List ℕ → List ℕ → List ℕ → ℕ → Carried
carried bank map reasons last = record { bank = bank; map = map; reasons = reasons; last = last }

abbrev pub fresh : Carried
fresh = carried fresh_bank fresh_written fresh_reasons 0

-- its buffers, in the order in which they are lent
abbrev pub lent_of : Carried → List (List ℕ)
lent_of m = m.bank ∷ m.map ∷ m.reasons ∷ []

-- "18, the 65,536th load (any number passed above 65,534), tested last"; a key takes no number
abbrev pub spent : ℕ → List ℕ → Test
spent last r = 18 if (not (asks_key r) && number_spent last)

-- "the count of its stores, or for a key of its kept bytes"
unfoldable pub count_of : List ℕ → List ℕ → ℕ
count_of r bank = cond (asks_key r) (kept_count (tile_in r) (mode_in r) (lane_in r) bank) (length (stores_in r))

-- what a record leaves: a key changes nothing; a load stores, leaves its number, and as "an ordinary load clears" the reasons where it
-- stores
unfoldable pub left : List ℕ → List ℕ → Carried → List (List ℕ)
left src r m =
    cond (asks_key r) (lent_of m)
    (left_by src (stores_in r) (following m.last) ordinary m.bank m.map m.reasons)

-- the last number after it: "A load that stores nothing still takes a number"
abbrev pub last_of : List ℕ → ℕ → ℕ
last_of r last = cond (asks_key r) last (following last)

-- what a record's tests settle, over a source and what is carried: its count and the last number are answered, and a refusal "hands
-- back the number passed"
unfoldable pub tested : List Test → List ℕ → List ℕ → Carried → Outcome
tested tests src r m =
    call_or tests
    (count_of r m.bank ∷ last_of r m.last ∷ [])
    (0 ∷ m.last ∷ [])
    (left src r m)
    (lent_of m)

-- its own tests, and the number's last
abbrev pub step_tests : ℕ → List ℕ → ℕ → List Test
step_tests end r last = record_tests end r ++ (spent last r ∷ [])

-- a record's outcome, where the companion file has `end` bytes and `src` is the part of it that the record names
unfoldable pub outcome : ℕ → List ℕ → List ℕ → Carried → Outcome
outcome end src r m = tested (step_tests end r m.last) src r m

-- that part: exactly the stated bytes
abbrev pub part_of : List ℕ → List ℕ → List ℕ
part_of r bytes = take (size_in r) bytes

-- a record's outcome over a whole companion file
unfoldable pub in_file : List ℕ → List ℕ → Carried → Outcome
in_file file r m = outcome (length file) (part_of r (drop (offset_in r) file)) r m

-- "Each record prints its refusal and then the count": its line, and what it carries on
abbrev pub line_in : Outcome → List ℕ
line_in o = o.refusal ∷ get_or o.numbers 0 0 ∷ []

abbrev pub onward : Outcome → Carried
onward o = carried (get_or o.buffers 0 []) (get_or o.buffers 1 []) (get_or o.buffers 2 []) (get_or o.numbers 1 0)

-- the lines of records one after the other, and the state after them, where `step` is a record's outcome
unfoldable pub replayed : (List ℕ → Carried → Outcome) → List (List ℕ) → Carried → Carried
replayed step [] m = m
replayed step (r ∷ l) m = replayed step l (onward (step r m))

unfoldable pub lines : (List ℕ → Carried → Outcome) → List (List ℕ) → Carried → List (List ℕ)
lines step [] m = []
lines step (r ∷ l) m = line_in (step r m) ∷ lines step l (onward (step r m))

-- the lines as text
unfoldable pub texts : List (List ℕ) → List ℕ
texts [] = []
texts (l ∷ ls) = line_text l ++ texts ls

-- the records of an input; a torn tail is the last, and too short: "a torn tail prints `8 0`"
abbrev pub record_count : List ℕ → ℕ
record_count input = (length input + 47) / replay_size

abbrev pub first_records : List ℕ → ℕ → List (List ℕ)
first_records input n = tab n (record_of replay_size input)

abbrev pub records_in : List ℕ → List (List ℕ)
records_in input = first_records input (record_count input)

-- what the replay of an input prints
unfoldable pub replay_text : List ℕ → List ℕ → List ℕ
replay_text file input = texts (lines (in_file file) (records_in input) fresh)

-- The calls. One record: `part` holds the companion file's bytes from the record's offset on. A part that ends before the stated
-- length is refused with 11, as a file that does.
abbrev pub short_part : List ℕ → List ℕ → Test
short_part part r = 11 if (not (asks_key r) && ltb (length part) (size_in r))

-- the record's own tests, then the part's, and the number's last
abbrev pub own_tests : ℕ → List ℕ → List ℕ → ℕ → List Test
own_tests end r part last = record_tests end r ++ (short_part part r ∷ spent last r ∷ [])

abbrev pub replay_tests : Carried → List ℕ → ℕ → List ℕ → List Test
replay_tests m r end part = lent_tests m.bank m.map m.reasons (own_tests end r part m.last)

unfoldable pub replay_call : Carried → List ℕ → ℕ → List ℕ → Outcome
replay_call m r end part = tested (replay_tests m r end part) (part_of r part) r m

-- A run of records, with a piece of the companion file at hand: the file's length, where the piece starts, and its bytes.
pub record Piece : Type 0 where
  pub end : ℕ
  pub start : ℕ
  pub bytes : List ℕ

abbrev pub piece : ℕ → ℕ → List ℕ → Piece
piece end start bytes = record { end = end; start = start; bytes = bytes }

-- the record is a load that none of its own tests refuses: it names a part of the file, whether or not a number is left for it
unfoldable pub takes_part : ℕ → List ℕ → Bool
takes_part end r = eqb (first (record_tests end r)) 0 && not (asks_key r)

-- its part is in the piece, or it takes none
unfoldable pub at_hand : Piece → List ℕ → Bool
at_hand p r =
    not (takes_part p.end r)
    || (not (ltb (offset_in r) p.start) && not (ltb (p.start + length p.bytes) (offset_in r + size_in r)))

-- that part, as the piece has it
unfoldable pub part_in : Piece → List ℕ → List ℕ
part_in p r = cond (takes_part p.end r) (part_of r (drop (offset_in r - p.start) p.bytes)) []

unfoldable pub in_piece : Piece → List ℕ → Carried → Outcome
in_piece p r m = outcome p.end (part_in p r) r m

-- how many records come before the first whose part is not at hand
unfoldable pub ready : Piece → List (List ℕ) → ℕ
ready p [] = 0
ready p (r ∷ l) = cond (at_hand p r) (suc (ready p l)) 0

-- the bytes of a record's longest line: two numbers with a byte after each
abbrev pub replay_room : ℕ
replay_room = 22

-- 6: the text's buffer does not hold the longest line of every record
abbrev pub short_text : List ℕ → List ℕ → Test
short_text input out = 6 if ltb (length out) (replay_room * record_count input)

abbrev pub run_tests : List ℕ → List ℕ → List ℕ → List ℕ → List ℕ → List Test
run_tests bank map reasons input out = lent_tests bank map reasons (short_text input out ∷ [])

-- The run replays the records that are ready. How many they are, the length of their text and the last load's number are answered; bank,
-- map and reasons are left as they stand then, and the text at the front of `out`. A refusal "hands back the number passed".
unfoldable pub run_call : Carried → List ℕ → Piece → List ℕ → Outcome
run_call m input p out =
    let n : ℕ = ready p (records_in input) in
    let l : List (List ℕ) = first_records input n in
    let text : List ℕ = texts (lines (in_piece p) l m) in
    let m' : Carried = replayed (in_piece p) l m in
    call_or (run_tests m.bank m.map m.reasons input out)
    (n ∷ length text ∷ m'.last ∷ [])
    (0 ∷ 0 ∷ m.last ∷ [])
    (m'.bank ∷ m'.map ∷ m'.reasons ∷ over text out ∷ [])
    (m.bank ∷ m.map ∷ m.reasons ∷ out ∷ [])
