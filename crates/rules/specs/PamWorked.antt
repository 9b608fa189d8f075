-- PAM files worked: what reading and writing give. `Rattle.rules.proofs.PamWorked` proves every row.
use Rattle.std.specs.Prelude.{List, [], ◌∷◌, ◌++◌, ℕ, ◌+◌, ◌*◌, replicate, take}
use Rattle.rules.specs.Tile.{side_limit}
use Rattle.rules.specs.Lister.{decimal}
use Rattle.rules.specs.Worked.{Case, ◌gives◌, answer}
use Rattle.rules.specs.Pam.{text, pam_file, pam_write_call, pam_read_call}

-- a file that is taken, with a picture buffer of just the bytes of its texels
abbrev taken : ℕ → ℕ → List ℕ → List ℕ → Case
taken w h texels file = answer (pam_read_call file (replicate (4 * (w * h)) 0)) gives 0 ∷ w ∷ h ∷ texels

-- a file that is refused with a number, with a picture buffer of so many bytes, and of a hundred
abbrev refused_of : ℕ → ℕ → List ℕ → Case
refused_of room n file = answer (pam_read_call file (replicate room 9)) gives n ∷ 0 ∷ 0 ∷ replicate room 9

abbrev refused : ℕ → List ℕ → Case
refused n file = refused_of 100 n file

-- two texels; then the end of a good file, with its texels: from ENDHDR on, from TUPLTYPE on, from DEPTH on, from HEIGHT on
abbrev texels : List ℕ
texels = 1 ∷ 2 ∷ 3 ∷ 4 ∷ 5 ∷ 6 ∷ 7 ∷ 8 ∷ []

abbrev close : List ℕ
close = text "ENDHDR\n" ++ texels

abbrev typed : List ℕ
typed = text "TUPLTYPE RGB_ALPHA\n" ++ close

abbrev rest : List ℕ
rest = text "DEPTH 4\nMAXVAL 255\n" ++ typed

abbrev back : List ℕ
back = text "HEIGHT 1\n" ++ rest

-- the first lines of that spelling, those with depth and maximum, and the whole header
abbrev front : List ℕ
front = text "P7\nWIDTH 2\nHEIGHT 1\n"

abbrev numbers : List ℕ
numbers = front ++ text "DEPTH 4\nMAXVAL 255\n"

abbrev header : List ℕ
header = numbers ++ text "TUPLTYPE RGB_ALPHA\nENDHDR\n"

-- a file's front with a width above the limit
abbrev above : List ℕ
above = text "P7\nWIDTH " ++ decimal (side_limit + 1)

-- a file of height 1 with this width
abbrev wide : ℕ → List ℕ → List ℕ
wide w bytes =
    text "P7\nWIDTH " ++ (decimal w ++ (text "\nHEIGHT 1\nDEPTH 4\nMAXVAL 255\nTUPLTYPE RGB_ALPHA\nENDHDR\n" ++ bytes))

unfoldable pub read_table : List Case
read_table =
    -- the writer's spelling
    (taken 2 1 texels (header ++ texels))
    -- lines in another order
    ∷ (taken 2 1 texels (text "P7\nTUPLTYPE RGB_ALPHA\nMAXVAL 255\nDEPTH 4\nHEIGHT 1\nWIDTH 2\n" ++ close))
    -- a comment right after the magic line
    ∷ (taken 2 1 texels (text "P7\n# made by hand\nWIDTH 2\n" ++ back))
    -- a comment right before ENDHDR, with bytes 0, 228 and 255 in it
    ∷ (taken 2 1 texels (numbers ++ (text "TUPLTYPE RGB_ALPHA\n# \0äÿ\n" ++ close)))
    -- comments that look like lines
    ∷ (taken 2 1 texels (front ++ (text "#WIDTH 9\n#ENDHDR\n" ++ rest)))
    -- a comment of 300 bytes
    ∷ (taken 2 1 texels (front ++ ((35 ∷ replicate 299 99) ++ (text "\n" ++ rest))))
    -- empty lines, and lines of spaces and tabs
    ∷ (taken 2 1 texels (text "P7\n\n \t \nWIDTH 2\n" ++ back))
    -- white space before the keyword, between, and at the end
    ∷ (taken 2 1 texels (text "P7\n  WIDTH 2 \n\tHEIGHT \t 1\nDEPTH  4\t\nMAXVAL\u{b}255\nTUPLTYPE\t RGB_ALPHA \t\n ENDHDR \n" ++ texels))
    -- carriage returns before every newline but the first
    ∷ (taken 2 1 texels (text "P7\nWIDTH 2\r\nHEIGHT 1\r\nDEPTH 4\r\nMAXVAL 255\r\nTUPLTYPE RGB_ALPHA\r\nENDHDR\r\n" ++ texels))
    -- leading zeros: the numbers are decimal
    ∷ (taken 10 1 (replicate 40 7) (text "P7\nWIDTH 0010\nHEIGHT 1\nDEPTH 4\nMAXVAL 0255\nTUPLTYPE RGB_ALPHA\nENDHDR\n" ++ replicate 40 7))
    -- thirty zeros before the digit
    ∷ (taken 2 1 texels (text "P7\nWIDTH 0000000000000000000000000000002\n" ++ back))
    -- words after ENDHDR
    ∷ (taken 2 1 texels (numbers ++ (text "TUPLTYPE RGB_ALPHA\nENDHDR of header\n" ++ texels)))
    -- bytes after the texels
    ∷ (taken 2 1 texels (header ++ (texels ++ text "P7\nmore")))
    -- a side at the limit
    ∷ (taken side_limit 1 (replicate (4 * side_limit) 7) (wide side_limit (replicate (4 * side_limit) 7)))
    -- the texels hold newlines and the word ENDHDR
    ∷ (taken 2 1 (text "ENDHDR\n\n") (header ++ text "ENDHDR\n\n"))
    -- an empty file
    ∷ (refused 13 [])
    -- `P7` alone
    ∷ (refused 13 (text "P7"))
    -- `P7` and its newline alone
    ∷ (refused 13 (text "P7\n"))
    -- another magic number
    ∷ (refused 13 (text "P6\nWIDTH 2\n" ++ back))
    -- small p
    ∷ (refused 13 (text "p7\nWIDTH 2\n" ++ back))
    -- something after `P7` on its line
    ∷ (refused 13 (text "P7x\nWIDTH 2\n" ++ back))
    -- a space after `P7`
    ∷ (refused 13 (text "P7 \nWIDTH 2\n" ++ back))
    -- a carriage return after `P7`
    ∷ (refused 13 (text "P7\r\nWIDTH 2\r\nHEIGHT 1\r\nDEPTH 4\r\nMAXVAL 255\r\nTUPLTYPE RGB_ALPHA\r\nENDHDR\r\n" ++ texels))
    -- a comment before `P7`
    ∷ (refused 13 (text "# hi\nP7\nWIDTH 2\n" ++ back))
    -- an empty line before it
    ∷ (refused 13 (text "\nP7\nWIDTH 2\n" ++ back))
    -- a byte-order mark before it
    ∷ (refused 13 (text "ï»¿P7\nWIDTH 2\n" ++ back))
    -- no newline after `P7`
    ∷ (refused 13 (text "P7 WIDTH 2\n" ++ back))
    -- no ENDHDR line
    ∷ (refused 13 (numbers ++ (text "TUPLTYPE RGB_ALPHA\n" ++ texels)))
    -- ENDHDR without a newline after it
    ∷ (refused 13 (numbers ++ text "TUPLTYPE RGB_ALPHA\nENDHDR"))
    -- no newline between ENDHDR and the texels
    ∷ (refused 13 (numbers ++ (text "TUPLTYPE RGB_ALPHA\nENDHDR" ++ texels)))
    -- ENDHDR in a comment alone
    ∷ (refused 13 (numbers ++ (text "TUPLTYPE RGB_ALPHA\n#" ++ close)))
    -- carriage returns in place of newlines
    ∷ (refused 13 (text "P7\rWIDTH 2\rHEIGHT 1\rDEPTH 4\rMAXVAL 255\rTUPLTYPE RGB_ALPHA\rENDHDR\r" ++ texels))
    -- an unknown keyword
    ∷ (refused 13 (front ++ (text "AUTHOR me\n" ++ rest)))
    -- a keyword of more than eight characters
    ∷ (refused 13 (front ++ (text "COPYRIGHTED 2\n" ++ rest)))
    -- a keyword in small letters
    ∷ (refused 13 (text "P7\nwidth 2\n" ++ back))
    -- no space after the keyword
    ∷ (refused 13 (text "P7\nWIDTH2\n" ++ back))
    -- an equals sign
    ∷ (refused 13 (text "P7\nWIDTH=2\n" ++ back))
    -- `#` after a space
    ∷ (refused 13 (front ++ (text " # hi\n" ++ rest)))
    -- a line of one zero byte
    ∷ (refused 13 (front ++ (text "\0\n" ++ rest)))
    -- no-break space (160) is no white space
    ∷ (refused 13 (text "P7\nWIDTH\u{a0}2\n" ++ back))
    -- the tuple type stuck to its keyword
    ∷ (refused 13 (numbers ++ (text "TUPLTYPERGB_ALPHA\n" ++ close)))
    -- ENDHDR with more letters
    ∷ (refused 13 (numbers ++ (text "TUPLTYPE RGB_ALPHA\nENDHDRS\n" ++ texels)))
    -- no WIDTH
    ∷ (refused 13 (text "P7\n" ++ back))
    -- no HEIGHT
    ∷ (refused 13 (text "P7\nWIDTH 2\n" ++ rest))
    -- no DEPTH
    ∷ (refused 13 (front ++ (text "MAXVAL 255\n" ++ typed)))
    -- no MAXVAL
    ∷ (refused 13 (front ++ (text "DEPTH 4\n" ++ typed)))
    -- WIDTH twice, equal
    ∷ (refused 13 (text "P7\nWIDTH 2\nWIDTH 2\n" ++ back))
    -- WIDTH twice, different
    ∷ (refused 13 (numbers ++ (text "TUPLTYPE RGB_ALPHA\nWIDTH 1\n" ++ close)))
    -- MAXVAL twice
    ∷ (refused 13 (numbers ++ (text "TUPLTYPE RGB_ALPHA\nMAXVAL 255\n" ++ close)))
    -- no number
    ∷ (refused 13 (text "P7\nWIDTH\n" ++ back))
    -- a letter in a number
    ∷ (refused 13 (text "P7\nWIDTH 2x\n" ++ back))
    -- hexadecimal
    ∷ (refused 13 (text "P7\nWIDTH 0x2\n" ++ back))
    -- a plus sign before it
    ∷ (refused 13 (text "P7\nWIDTH +2\n" ++ back))
    -- a minus sign before it
    ∷ (refused 13 (text "P7\nWIDTH -2\n" ++ back))
    -- a point in it
    ∷ (refused 13 (text "P7\nWIDTH 2.0\n" ++ back))
    -- a comma in it
    ∷ (refused 13 (text "P7\nWIDTH 1,024\n" ++ back))
    -- two numbers
    ∷ (refused 13 (text "P7\nWIDTH 2 3\n" ++ back))
    -- a number and a remark
    ∷ (refused 13 (text "P7\nWIDTH 2 # two\n" ++ back))
    -- a zero byte after the number
    ∷ (refused 13 (text "P7\nWIDTH 2\0\n" ++ back))
    -- a zero width
    ∷ (refused 13 (text "P7\nWIDTH 0\nHEIGHT 1\nDEPTH 4\nMAXVAL 255\nTUPLTYPE RGB_ALPHA\nENDHDR\n"))
    -- a zero height
    ∷ (refused 13 (text "P7\nWIDTH 2\nHEIGHT 000\nDEPTH 4\nMAXVAL 255\nTUPLTYPE RGB_ALPHA\nENDHDR\n"))
    -- depth 0
    ∷ (refused 13 (front ++ (text "DEPTH 0\nMAXVAL 255\n" ++ typed)))
    -- maximum 0
    ∷ (refused 13 (front ++ (text "DEPTH 4\nMAXVAL 0\n" ++ typed)))
    -- maximum 65,536
    ∷ (refused 13 (front ++ (text "DEPTH 4\nMAXVAL 65536\n" ++ typed)))
    -- maximum 2^64 + 255
    ∷ (refused 13 (front ++ (text "DEPTH 4\nMAXVAL 18446744073709551871\n" ++ typed)))
    -- TUPLTYPE with nothing after it
    ∷ (refused 13 (numbers ++ (text "TUPLTYPE\n" ++ close)))
    -- TUPLTYPE with white space alone, and a good one
    ∷ (refused 13 (numbers ++ (text "TUPLTYPE \t\n" ++ typed)))
    -- an unknown line beside depth 3: 13 before 14
    ∷ (refused 13 (front ++ (text "DEPTH 3\nMAXVAL 255\nTUPLTYPE RGB\nAUTHOR me\n" ++ close)))
    -- a zero height beside a width above the limit: 13 before 2
    ∷ (refused 13 (above ++ text "\nHEIGHT 0\nDEPTH 4\nMAXVAL 255\nTUPLTYPE RGB_ALPHA\nENDHDR\n"))
    -- depth 3, of type RGB
    ∷ (refused 14 (front ++ (text "DEPTH 3\nMAXVAL 255\nTUPLTYPE RGB\n" ++ close)))
    -- depth 5
    ∷ (refused 14 (front ++ (text "DEPTH 5\nMAXVAL 255\n" ++ typed)))
    -- depth 2^64 + 4
    ∷ (refused 14 (front ++ (text "DEPTH 18446744073709551620\nMAXVAL 255\n" ++ typed)))
    -- maximum 254
    ∷ (refused 14 (front ++ (text "DEPTH 4\nMAXVAL 254\n" ++ typed)))
    -- maximum 65,535
    ∷ (refused 14 (front ++ (text "DEPTH 4\nMAXVAL 65535\n" ++ typed)))
    -- no tuple type
    ∷ (refused 14 (numbers ++ close))
    -- tuple type RGB
    ∷ (refused 14 (numbers ++ (text "TUPLTYPE RGB\n" ++ close)))
    -- the tuple type in small letters
    ∷ (refused 14 (numbers ++ (text "TUPLTYPE rgb_alpha\n" ++ close)))
    -- a second word in the tuple type
    ∷ (refused 14 (numbers ++ (text "TUPLTYPE RGB_ALPHA sRGB\n" ++ close)))
    -- a remark after the tuple type
    ∷ (refused 14 (numbers ++ (text "TUPLTYPE RGB_ALPHA # x\n" ++ close)))
    -- two TUPLTYPE lines, both RGB_ALPHA
    ∷ (refused 14 (numbers ++ (text "TUPLTYPE RGB_ALPHA\n" ++ typed)))
    -- two TUPLTYPE lines, RGB and ALPHA
    ∷ (refused 14 (numbers ++ (text "TUPLTYPE RGB\nTUPLTYPE ALPHA\n" ++ close)))
    -- a byte above 127 in the tuple type
    ∷ (refused 14 (numbers ++ (text "TUPLTYPE RGB_ALPHAä\n" ++ close)))
    -- depth 3 beside a width above the limit: 14 before 2
    ∷ (refused 14 (above ++ text "\nHEIGHT 1\nDEPTH 3\nMAXVAL 255\nTUPLTYPE RGB\nENDHDR\n"))
    -- a width above the limit
    ∷ (refused 2 (wide (side_limit + 1) (replicate (4 * (side_limit + 1)) 7)))
    -- a height above the limit, and no texels: 2 before 15
    ∷ (refused 2 (text "P7\nWIDTH 2\nHEIGHT " ++ (decimal (side_limit + 1) ++ text "\nDEPTH 4\nMAXVAL 255\nTUPLTYPE RGB_ALPHA\nENDHDR\n")))
    -- width 2^32 + 2
    ∷ (refused 2 (text "P7\nWIDTH 4294967298\n" ++ back))
    -- width 2^64 + 2
    ∷ (refused 2 (text "P7\nWIDTH 18446744073709551618\n" ++ back))
    -- a width of a hundred digits
    ∷ (refused 2 (text "P7\nWIDTH 1" ++ (replicate 99 48 ++ (text "\n" ++ back))))
    -- no texels
    ∷ (refused 15 header)
    -- one byte too few
    ∷ (refused 15 (header ++ take 7 texels))
    -- one byte too few, and a picture buffer of 7 bytes: 15 before 6
    ∷ (refused_of 7 15 (header ++ take 7 texels))
    -- a picture buffer of 7 bytes
    ∷ (refused_of 7 6 (header ++ texels))
    -- a picture buffer of no bytes
    ∷ (refused_of 0 6 (header ++ texels))
    ∷ []

-- writing a picture of so many bytes, all 7, into a file buffer of so many, all 9
abbrev writing : ℕ → ℕ → ℕ → ℕ → List ℕ
writing w h picture file = answer (pam_write_call w h (replicate picture 7) (replicate file 9))

abbrev written : ℕ → ℕ → ℕ → List ℕ
written w h size = 0 ∷ size ∷ pam_file w h (replicate (4 * (w * h)) 7)

unfoldable pub write_table : List Case
write_table =
    -- the spelling, and buffers of just the bytes
    (pam_file 2 1 texels gives header ++ texels)
    ∷ (pam_file 1 10 (replicate 40 7)
    gives text "P7\nWIDTH 1\nHEIGHT 10\nDEPTH 4\nMAXVAL 255\nTUPLTYPE RGB_ALPHA\nENDHDR\n" ++ replicate 40 7)
    ∷ (writing 2 1 8 73 gives written 2 1 73)
    ∷ (writing 1 1 4 69 gives written 1 1 69)
    ∷ (writing 9 10 360 426 gives written 9 10 426)
    -- longer ones: "the surplus keeps its bytes"
    ∷ (writing 2 1 9 73 gives written 2 1 73)
    ∷ (writing 2 1 8 75 gives written 2 1 73 ++ (9 ∷ 9 ∷ []))
    -- a side above the limit, beside a zero side too: 2 before 12
    ∷ (writing (side_limit + 1) 1 (4 * (side_limit + 1)) 9 gives 2 ∷ 0 ∷ replicate 9 9)
    ∷ (writing 1 (side_limit + 1) 0 0 gives 2 ∷ 0 ∷ [])
    ∷ (writing (side_limit + 1) 0 0 0 gives 2 ∷ 0 ∷ [])
    ∷ (writing 4294967295 4294967295 0 0 gives 2 ∷ 0 ∷ [])
    -- a zero side, beside buffers of no bytes too: 12 before 6
    ∷ (writing 0 1 0 100 gives 12 ∷ 0 ∷ replicate 100 9)
    ∷ (writing 1 0 0 0 gives 12 ∷ 0 ∷ [])
    ∷ (writing 0 0 0 0 gives 12 ∷ 0 ∷ [])
    -- a picture or a file buffer that is a byte too short
    ∷ (writing 2 1 7 73 gives 6 ∷ 0 ∷ replicate 73 9)
    ∷ (writing 2 1 8 72 gives 6 ∷ 0 ∷ replicate 72 9)
    ∷ (writing 2 1 0 0 gives 6 ∷ 0 ∷ [])
    ∷ []
