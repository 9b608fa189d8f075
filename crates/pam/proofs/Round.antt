-- "Reading what was written gives the same size and texels."
use mathlib.Core.Path.{◌≡◌, refl, sym}
use mathlib.Core.Bool.{true, false, not, ◌||◌}
use mathlib.Core.List.{List, [], ◌∷◌, ◌++◌, append_assoc}
use Prim.Native.Nat.{ℕ, ◌+◌, ◌≤◌}
use native.Mathlib.Omega.{arith}
use lib.Dec.{ltb}
use lib.ListN.{length, take, drop, length-append}
use lib.Seq.{length-take-le, take_at, drop-append_seam}
use borrow.Author.Tests.{le-ltb}
use Rattle.rules.specs.Base.{any, all, empty, same, over}
use Rattle.rules.specs.Tile.{side_limit}
use Rattle.rules.specs.Refusal.{first}
use Rattle.rules.specs.Lister.{decimal}
use Rattle.rules.specs.Pam.{text, lines, ended, pam_header, texel_bytes, pam_file, pam_write_tests, front, behind, cut, value, is_end}
use Rattle.rules.specs.Pam.{unknown_line, fields, lines_size, values, digit, number_from, number, is_count, joined}
use Rattle.rules.specs.Pam.{Header, header_of, pam_head, pam_read_tests, pam_read_call}
use Rattle.rules.proofs.Refused.{done_is}
use Rattle.pam.proofs.Lines.{plain, lines-ended}
use Rattle.pam.proofs.Numerals.{Numeral, numeral, numeral_counts, digits_plain, digits_trimmed, digits_cut}
use Rattle.pam.proofs.Files.{length-header, fits}

-- The lines that are written, with these digits for the sizes.
abbrev field_lines : List ℕ → List ℕ → List (List ℕ)
field_lines d e =
    (text "WIDTH " ++ d)
    ∷ (text "HEIGHT " ++ e)
    ∷ text "DEPTH 4"
    ∷ text "MAXVAL 255"
    ∷ text "TUPLTYPE RGB_ALPHA"
    ∷ []

abbrev written_lines : List ℕ → List ℕ → List (List ℕ)
written_lines d e = field_lines d e ++ (text "ENDHDR" ∷ [])

lines-plain : (d e : List ℕ) → all plain d ≡ true → all plain e ≡ true → all (all plain) (written_lines d e) ≡ true
unfolding all text
lines-plain d e p q = rw (p, q)

module _ (d e : List ℕ) (more : List (List ℕ)) where
  fields_are : fields (written_lines d e ++ more) ≡ field_lines d e
  unfolding fields text same front behind
  fields_are = refl

  ends : any is_end (written_lines d e ++ more) ≡ true
  unfolding any text same front behind
  ends = refl

  size_is : 3 + lines_size (written_lines d e ++ more) ≡ 63 + length d + length e
  unfolding lines_size text same front behind
  size_is = omega arith

module _ (d e : List ℕ) where
  all_known : any unknown_line (field_lines d e) ≡ false
  unfolding any text same front behind
  all_known = refl

  widths_are : values "WIDTH" (field_lines d e) ≡ value (text "WIDTH " ++ d) ∷ []
  unfolding values text same front behind
  widths_are = refl

  heights_are : values "HEIGHT" (field_lines d e) ≡ value (text "HEIGHT " ++ e) ∷ []
  unfolding values text same front behind
  heights_are = refl

  depths_are : values "DEPTH" (field_lines d e) ≡ text "4" ∷ []
  unfolding values text same front behind cut
  depths_are = refl

  maxvals_are : values "MAXVAL" (field_lines d e) ≡ text "255" ∷ []
  unfolding values text same front behind cut
  maxvals_are = refl

  types_are : values "TUPLTYPE" (field_lines d e) ≡ text "RGB_ALPHA" ∷ []
  unfolding values text same front behind cut
  types_are = refl

value_width : (d : List ℕ) → all digit d ≡ true → value (text "WIDTH " ++ d) ≡ d
unfolding text behind
value_width d h = rw (digits_trimmed d h, digits_cut d h)

value_height : (d : List ℕ) → all digit d ≡ true → value (text "HEIGHT " ++ d) ≡ d
unfolding text behind
value_height d h = rw (digits_trimmed d h, digits_cut d h)

abbrev read_header : ℕ → ℕ → ℕ → Header
read_header w h size =
    record { broken = false; width = w; height = h; depth = 4; maxval = 255; tuple = text "RGB_ALPHA"; size = size }

literals : (w h size : ℕ) → record {
  broken =
      not (is_count (text "4"))
      || not (is_count (text "255"))
      || ltb 65535 (number (text "255"))
      || any empty (text "RGB_ALPHA" ∷ []);
  width = w;
  height = h;
  depth = number (text "4");
  maxval = number (text "255");
  tuple = joined (text "RGB_ALPHA" ∷ []);
  size = size;
}
    ≡ read_header w h size
unfolding text all number_from any joined
literals w h size = refl

header-says : (w h : ℕ) (d e : List ℕ) (more : List (List ℕ)) → Numeral w d → Numeral h e → 1 ≤ w → 1 ≤ h
    → header_of true (written_lines d e ++ more) ≡ read_header w h (63 + length d + length e)
unfolding header_of
header-says w h d e more nw nh lw lh =
    rw (fields_are d e more, ends d e more, all_known d e, size_is d e more, widths_are d e, heights_are d e)
    (rw (depths_are d e, maxvals_are d e, types_are d e, value_width d nw.digits, value_height e nh.digits)
    (rw (numeral_counts w d nw lw, numeral_counts h e nh lh, nw.value, nh.value) (literals w h (63 + length d + length e))))

-- the file's first three bytes, and the rest of its lines
front_is : (w h : ℕ) (rest : List ℕ) → pam_header w h ++ rest ≡ text "P7\n" ++ (ended (written_lines (decimal w) (decimal h)) ++ rest)
unfolding pam_header ended text
front_is w h rest = refl

magic_is : (s : List ℕ) → same (take 3 (text "P7\n" ++ s)) (text "P7\n") ≡ true
unfolding text same
magic_is s = refl

after_magic : (s : List ℕ) → drop 3 (text "P7\n" ++ s) ≡ s
unfolding text
after_magic s = refl

-- The header that was written, read with anything after it.
head_is : (w h : ℕ) (rest : List ℕ) → 1 ≤ w → 1 ≤ h → w ≤ side_limit → h ≤ side_limit
    → pam_head (pam_header w h ++ rest) ≡ read_header w h (length (pam_header w h))
unfolding pam_head
head_is w h rest lw lh mw mh =
    let nw : Numeral w (decimal w) = numeral w mw in
    let nh : Numeral h (decimal h) = numeral h mh in
    let plain_lines = lines-plain (decimal w) (decimal h) (digits_plain (decimal w) nw.digits) (digits_plain (decimal h) nh.digits) in
    rw (length-header w h, front_is w h rest, magic_is, after_magic, lines-ended (written_lines (decimal w) (decimal h)) rest plain_lines)
    (header-says w h (decimal w) (decimal h) (lines rest) nw nh lw lh)

accepted : (w h size : ℕ) (file out : List ℕ) → w ≤ side_limit → h ≤ side_limit → size + texel_bytes w h ≤ length file
    → texel_bytes w h ≤ length out → first (pam_read_tests (read_header w h size) file out) ≡ 0
unfolding first text same
accepted w h size file out mw mh lf lo =
    rw (le-ltb side_limit w mw, le-ltb side_limit h mh)
    (rw (le-ltb (length file) (size + texel_bytes w h) lf, le-ltb (length out) (texel_bytes w h) lo))

-- "Reading what was written gives the same size and texels." "Bytes after the texels are not read."
pub round_trip : (w h : ℕ) (picture more out : List ℕ) → 1 ≤ w → 1 ≤ h → w ≤ side_limit → h ≤ side_limit
    → texel_bytes w h ≤ length picture → texel_bytes w h ≤ length out
    → pam_read_call (pam_file w h picture ++ more) out
    ≡ record { refusal = 0; numbers = w ∷ h ∷ []; buffers = over (take (texel_bytes w h) picture) out ∷ [] }
unfolding pam_read_call pam_file
round_trip w h picture more out lw lh mw mh lp lo =
    let texels : List ℕ = take (texel_bytes w h) picture in
    let many : length texels ≡ texel_bytes w h = length-take-le (texel_bytes w h) picture lp in
    let whole : List ℕ = pam_header w h ++ (texels ++ more) in
    let enough : length (pam_header w h) + texel_bytes w h ≤ length whole = simp length-append (omega arith) in
    rw (append_assoc, head_is w h (texels ++ more) lw lh mw mh, drop-append_seam, take_at texels more (texel_bytes w h) many)
    (sym (done_is (pam_read_tests (read_header w h (length (pam_header w h))) whole out) _ _ _ (accepted w h _ whole out mw mh enough lo)))

-- What writing leaves in a file's buffer, however long that is, reads back as the picture.
pub written_read : (w h : ℕ) (picture file out : List ℕ) → first (pam_write_tests w h picture file) ≡ 0 → texel_bytes w h ≤ length out
    → pam_read_call (over (pam_file w h picture) file) out
    ≡ record { refusal = 0; numbers = w ∷ h ∷ []; buffers = over (take (texel_bytes w h) picture) out ∷ [] }
unfolding over
written_read w h picture file out e lo =
    let f = fits w h picture file e in
    let more = drop (length (pam_file w h picture)) file in
    round_trip w h picture more out f.wide f.high f.sides.width f.sides.height f.texels lo
