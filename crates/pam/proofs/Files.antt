-- A file written part by part, and what is known where writing it is not refused.
use mathlib.Core.Path.{◌≡◌, refl, sym}
use mathlib.Core.List.{List, [], ◌∷◌, ◌++◌, append_assoc}
use Prim.Native.Nat.{ℕ, ◌+◌, ◌*◌, ◌≤◌}
use native.Mathlib.Omega.{arith}
use native.Mathlib.Nat.{mul-le-mul}
use lib.ListN.{length, take, length-append}
use lib.Seq.{take_at}
use lib.Dec.{eqb}
use borrow.Author.Tests.{eqb-false, ltb-false}
use Rattle.rules.specs.Base.{over}
use Rattle.rules.specs.Tile.{side_limit}
use Rattle.rules.specs.Refusal.{first}
use Rattle.rules.specs.Lister.{decimal, number_text}
use Rattle.rules.specs.Pam.{text, ended, pam_header, texel_bytes, pam_size, pam_write_tests, pam_file, pam_write_call}
use Rattle.rules.proofs.Ranges.{neither}
use Rattle.rules.proofs.Refused.{Passed, numbered, passed, done_is}
use Rattle.decimal.proofs.Decimals.{decimal_short}
use Rattle.pam.specs.Tests.{header_most}
use Rattle.pam.proofs.Sides.{Within, within}

-- the header's parts, as they are written
abbrev header_parts : ℕ → ℕ → List ℕ
header_parts w h =
    (((text "P7\nWIDTH " ++ number_text w 10) ++ text "HEIGHT ") ++ number_text h 10)
    ++ text "DEPTH 4\nMAXVAL 255\nTUPLTYPE RGB_ALPHA\nENDHDR\n"

pub header_parts_lem : (w h : ℕ) → header_parts w h ≡ pam_header w h
unfolding text ended pam_header
header_parts_lem w h = simp append_assoc

pub length-header : (w h : ℕ) → length (pam_header w h) ≡ 63 + length (decimal w) + length (decimal h)
unfolding pam_header ended text
length-header w h = simp length-append (omega arith)

pub header_short : (w h : ℕ) → length (pam_header w h) ≤ header_most
header_short w h = omega (arith, length-header w h, decimal_short w, decimal_short h)

-- nothing is refused
pub record Fits (w h : ℕ) (picture file : List ℕ) : Type 0 where
  pub sides : Within w h
  pub wide : 1 ≤ w
  pub high : 1 ≤ h
  pub texels : texel_bytes w h ≤ length picture
  pub room : pam_size w h ≤ length file

pub fits : (w h : ℕ) (picture file : List ℕ) → first (pam_write_tests w h picture file) ≡ 0 → Fits w h picture file
unfolding Passed
fits w h picture file e =
    let p = passed (pam_write_tests w h picture file) (numbered (pam_write_tests w h picture file) refl) e in
    let z = neither (eqb w 0) (eqb h 0) p.1.0 in
    record {
      sides = within w h p.0;
      wide = omega (arith, eqb-false w 0 z.0);
      high = omega (arith, eqb-false h 0 z.1);
      texels = ltb-false _ _ p.1.1.0;
      room = ltb-false _ _ p.1.1.1.0;
    }

-- the header's bytes at the front of the array that it was made in
pub header-front : (w h size : ℕ) (old xs : List ℕ) → size ≡ length (pam_header w h) → xs ≡ over (pam_header w h) old
    → take size xs ≡ pam_header w h
unfolding over
header-front w h size old xs n e = rw (e, take_at (pam_header w h) _ size (sym n))

-- the count of a file's bytes
pub size_small : (w h : ℕ) → Within w h → pam_size w h ≤ header_most + 4 * (side_limit * side_limit)
size_small w h s = omega (arith, header_short w h, mul-le-mul s.width s.height)

-- the call where nothing is refused: the count of the file's bytes, and the file
pub file_written : (w h : ℕ) (picture file : List ℕ) {n : ℕ} {xs : List ℕ} → first (pam_write_tests w h picture file) ≡ 0 → n ≡ pam_size w
    h
    → xs ≡ over (pam_header w h ++ take (texel_bytes w h) picture) file
    → record { refusal = 0; numbers = n ∷ []; buffers = xs ∷ [] } ≡ pam_write_call w h picture file
unfolding pam_write_call pam_file
file_written w h picture file none n e = rw (n, e) (done_is (pam_write_tests w h picture file) _ _ _ none)
