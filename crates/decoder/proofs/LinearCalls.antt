-- What holds of inputs of the linear decoding that are not refused, and what the call then answers and leaves.
use mathlib.Core.Path.{◌≡◌, refl, sym}
use mathlib.Core.Bool.{true, false, ◌||◌}
use mathlib.Core.List.{List, [], ◌∷◌}
use Prim.Native.Nat.{ℕ, ◌*◌, ◌≤◌}
use native.Mathlib.Nat.{mul_assoc}
use native.Mathlib.Omega.{arith}
use lib.Dec.{ltb}
use lib.ListN.{length}
use borrow.Author.Tests.{ltb-false, not-false}
use Rattle.rules.specs.Base.{over}
use Rattle.rules.specs.Reading.{given}
use Rattle.rules.specs.Tile.{Tile, side_limit, sides_outside, linear_fields_outside}
use Rattle.rules.specs.Texdec.{Format, format_of, known, accepted}
use Rattle.rules.specs.Linear.{linear, linear_row}
use Rattle.rules.specs.Picture.{format_reads}
use Rattle.rules.specs.Refusal.{first}
use Rattle.rules.specs.Calls.{linear_tests, linear_call}
use Rattle.rules.proofs.Ranges.{neither, both}
use Rattle.rules.proofs.Refused.{Passed, numbered, passed, done_is}
use Rattle.rules.proofs.Formats.{accepted-known}
use Rattle.std.specs.Prelude.{Result, IsErrAnd}
use Rattle.rdp.specs.Refused.{number_of}
use Rattle.rdp.specs.View.{answered}
use Rattle.rdp.specs.declared.refusal.Refusal.{Refusal}
use Rattle.rdp.proofs.Refusals.{refused_call}
use Rattle.decoder.specs.Linear.{linear_rows}
use Rattle.decoder.proofs.Sources.{rows_reads}

-- the fields are inside their ranges; of the sides, as far as sums of them go
pub record Sides (t : Tile) : Type 0 where
  pub fmt : t.fmt ≤ 7
  pub siz : t.siz ≤ 3
  pub palette : t.palette ≤ 15
  pub width : t.width ≤ 16384
  pub height : t.height ≤ 16384

pub sides : (t : Tile) → linear_fields_outside t ≡ false → Sides t
sides t h =
    let a = neither (ltb 7 t.fmt || ltb 3 t.siz || ltb 15 t.palette) (sides_outside t.width t.height) h in
    let b = neither (ltb 7 t.fmt || ltb 3 t.siz) (ltb 15 t.palette) a.0 in
    let c = neither (ltb 7 t.fmt) (ltb 3 t.siz) b.0 in
    let d = neither (ltb side_limit t.width) (ltb side_limit t.height) a.1 in
    record {
      fmt = ltb-false 7 t.fmt c.0;
      siz = ltb-false 3 t.siz c.1;
      palette = ltb-false 15 t.palette b.1;
      width = omega (arith, ltb-false side_limit t.width d.0);
      height = omega (arith, ltb-false side_limit t.height d.1);
    }

-- nothing is refused
pub record Taken (t : Tile) (stride : ℕ) (out : List ℕ) : Type 0 where
  pub sides : Sides t
  pub stride_in : stride ≤ 65535
  pub knows : known (format_of t.fmt t.siz) ≡ true
  pub room : 4 * t.width * t.height ≤ length out

module _ (src : List ℕ) (t : Tile) (stride : ℕ) (out : List ℕ) where
  pub taken : first (linear_tests src t stride out) ≡ 0 → Taken t stride out
  unfolding Passed
  taken h =
      let p = passed (linear_tests src t stride out) (numbered (linear_tests src t stride out) refl) h in
      let s = sides t p.0 in
      let far = neither (ltb 65536 (length src)) (ltb 65535 stride) p.1.0 in
      let pair = both (accepted 0 t.fmt t.siz) _ (not-false _ p.1.1.0) in
      let fits = ltb-false (length out) (4 * (t.width * t.height)) p.1.1.1.0 in
      record {
        sides = s;
        stride_in = ltb-false 65535 stride far.1;
        knows = accepted-known 0 t.fmt t.siz pair.0;
        room = rw (mul_assoc 4 t.width t.height) fits;
      }

  -- the rows of the pair's format are the rule's
  rows_are : linear_rows (format_of t.fmt t.siz) t.palette stride t.width t.height ≡ linear t stride
  unfolding linear linear_row
  rows_are = refl

  pub linear-refused : (r : Result ℕ Refusal) (e : Refusal) → IsErrAnd r (λ f. f ≡ e) → number_of e ≡ first (linear_tests src t stride out)
      → answered r (out ∷ []) ≡ linear_call src t stride out
  unfolding linear_call
  linear-refused r e h p = refused_call (λ n. n ∷ []) r e _ (_ ∷ []) _ (out ∷ []) h p

  pub linear_done : (f : Format) (count : ℕ) (picture : List ℕ) → 0 ≡ first (linear_tests src t stride out)
      → f ≡ format_of t.fmt t.siz → count ≡ format_reads f * (t.width * t.height)
      → picture ≡ over (given (linear_rows f t.palette stride t.width t.height) src) out
      → record { refusal = 0; numbers = count ∷ []; buffers = picture ∷ [] } ≡ linear_call src t stride out
  unfolding linear_call
  linear_done f count picture z e n p =
      rw (n, ← rows_reads f t.palette stride t.width src t.height, p, e, rows_are) (done_is _ _ _ _ (sym z))
