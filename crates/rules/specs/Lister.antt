-- The lister: records of 4,112 bytes in, a line each out.
use Rattle.std.specs.Prelude.{true, false, cond, List, [], ◌∷◌, ◌++◌, ℕ, zero, suc, ◌+◌, ◌*◌, ◌/◌, ◌%◌, eqb, ltb, length, get_or, take}
use Rattle.std.specs.Prelude.{drop}
use Rattle.rules.specs.Base.{one, tab, concat, record_of, over}
use Rattle.rules.specs.Tile.{Tile, bank_size, side_limit}
use Rattle.rules.specs.Sampling.{flag, texels}
use Rattle.rules.specs.Refusal.{◌if◌, Outcome, call}
use Rattle.rules.specs.Calls.{pair_tests_to}
use Rattle.rules.specs.Key.{kept_count}

-- "records of 4,112 bytes, no header"
abbrev pub record_size : ℕ
record_size = 4112

abbrev pub byte : List ℕ → ℕ → ℕ
byte r k = get_or r k 0

-- "two bytes, big end first"
abbrev pub two : List ℕ → ℕ → ℕ
two r k = byte r k * 256 + byte r (k + 1)

-- "fmt, siz, palette, mode, cms, cmt, masks, maskt (a byte each), line, tmem_addr, width, height .., then the bank"
unfoldable pub record_tile : List ℕ → Tile
record_tile r =
    record {
      fmt = byte r 0;
      siz = byte r 1;
      palette = byte r 2;
      cms = byte r 4;
      cmt = byte r 5;
      masks = byte r 6;
      maskt = byte r 7;
      line = two r 8;
      tmem_addr = two r 10;
      width = two r 12;
      height = two r 14;
    }

abbrev pub record_mode : List ℕ → ℕ
record_mode r = byte r 3

abbrev pub record_bank : List ℕ → List ℕ
record_bank r = take bank_size (drop 16 r)

-- "refusal, flag, distinct kept bytes, texels; on refusal the rest are 0"; "Lane is 0." Document 02's item 12 speaks of "a lister from
-- before this change": a lister has a limit of the sides, and is else the same. The one without `To` in its name is today's.
unfoldable pub line_to : ℕ → Tile → ℕ → List ℕ → Outcome
line_to limit t mode bank =
    call (pair_tests_to limit t mode 0)
    (one (flag t mode) ∷ kept_count t mode 0 bank ∷ texels t mode ∷ [])
    [] []

abbrev pub line_of : Tile → ℕ → List ℕ → Outcome
line_of t mode bank = line_to side_limit t mode bank

unfoldable pub record_line_to : ℕ → List ℕ → List ℕ
record_line_to limit r =
    let o : Outcome = line_to limit (record_tile r) (record_mode r) (record_bank r) in
    o.refusal ∷ o.numbers

abbrev pub record_line : List ℕ → List ℕ
record_line r = record_line_to side_limit r

-- a number's decimal digits, least first, with fuel for as many
unfoldable pub low_digits : ℕ → ℕ → List ℕ
low_digits zero n = []
low_digits (suc fuel) n = elim (ltb n 10) [ true ↦ (n + 48) ∷ [] | false ↦ (n % 10 + 48) ∷ low_digits fuel (n / 10) ]

unfoldable pub reversed : List ℕ → List ℕ → List ℕ
reversed [] done = done
reversed (d ∷ l) done = reversed l (d ∷ done)

-- the number in decimal; ten digits hold every 32-bit number
unfoldable pub decimal : ℕ → List ℕ
decimal n = reversed (low_digits 10 n) []

-- the numbers of a line with a space (32) between them and a line's end (10) after the last
unfoldable pub line_text : List ℕ → List ℕ
line_text [] = []
line_text (n ∷ []) = decimal n ++ (10 ∷ [])
line_text (n ∷ m ∷ l) = decimal n ++ (32 ∷ line_text (m ∷ l))

-- the whole records of an input, and "A torn tail adds `8 0 0 0`; empty input prints nothing."
abbrev pub record_at : List ℕ → ℕ → List ℕ
record_at input i = record_of record_size input i

abbrev pub torn_line : List ℕ
torn_line = 8 ∷ 0 ∷ 0 ∷ 0 ∷ []

abbrev pub tail : List ℕ → List ℕ
tail input = cond (eqb (length input % record_size) 0) [] (line_text torn_line)

unfoldable pub listing_to : ℕ → List ℕ → List ℕ
listing_to limit input =
    concat (tab (length input / record_size) (λ i. line_text (record_line_to limit (record_at input i)))) ++ tail input

abbrev pub listing : List ℕ → List ℕ
listing input = listing_to side_limit input

-- The calls that write text into a lent buffer. One with less room than the longest text of its kind needs is refused with 6, as a
-- picture's buffer is.

-- the bytes of the longest number with one byte after it, and of the longest line
abbrev pub number_room : ℕ
number_room = 11

abbrev pub line_room : ℕ
line_room = 44

-- a number's digits and a byte after them, written from a place on; their end is answered
abbrev pub number_text : ℕ → ℕ → List ℕ
number_text n after = decimal n ++ (after ∷ [])

unfoldable pub number_call : ℕ → ℕ → List ℕ → ℕ → Outcome
number_call n after out at =
    call ((6 if ltb (length out) (at + number_room)) ∷ [])
    ((at + length (number_text n after)) ∷ [])
    (over (take at out ++ number_text n after) out ∷ [])
    (out ∷ [])

-- the lister's text for an input, written to the front; its length is answered
unfoldable pub list_call : List ℕ → List ℕ → Outcome
list_call input out =
    call ((6 if ltb (length out) (line_room * (length input / record_size + 1))) ∷ [])
    (length (listing input) ∷ [])
    (over (listing input) out ∷ [])
    (out ∷ [])
