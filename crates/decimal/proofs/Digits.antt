-- A number's digits written over the front of a buffer, as `put_digits` writes them, and with a byte after them from a
-- place on, as `put_number` does.
use mathlib.Core.Path.{◌≡◌, refl, ap, sym, ◌∙◌}
use mathlib.Core.List.{List, [], ◌++◌, append_assoc}
use Prim.Native.Nat.{ℕ, ◌+◌, ◌/◌, ◌%◌, ◌^◌, ◌<◌, ◌≤◌}
use native.Mathlib.Omega.{arith}
use lib.ListN.{length, set, take, length-append}
use lib.Seq.{length-take-le}
use Rattle.rules.specs.Base.{over}
use Rattle.rules.specs.Lister.{decimal, number_room, number_text}
use Rattle.rules.proofs.Over.{length_over}
use Rattle.decimal.proofs.Decimals.{decimal_short, decimal-one, decimal-more}
use Rattle.decimal.proofs.Writes.{over-one, lent, back, over_lent}

-- The digit d was stored at k of a list, and a number's digits stand over the buffer with it.
pub record Stored (n k d : ℕ) (list out : List ℕ) : Type 0 where
  pub room : k < length list
  pub count : k + 1 ≡ length (decimal n)
  pub text : set list k d ≡ over (decimal n) out

pub one-digit : (n : ℕ) (out : List ℕ) → n < 10 → length (decimal n) ≤ length out → Stored n 0 (n + 48) out out
unfolding over
one-digit n out h l =
    let e = decimal-one n h in
    let room : 0 < length out = omega (arith, ap length e) in
    record { room = room; count = sym (ap length e); text = rw e (over-one [] out (n + 48) 0 refl room) }

module _ (n : ℕ) (more : 10 ≤ n) (small : n < 2 ^ 32) where
  pub digits_more : length (decimal n) ≡ length (decimal (n / 10)) + 1
  digits_more = rw (decimal-more n more small, length-append)

  pub last_digit : (k : ℕ) (list out : List ℕ) → length (decimal n) ≤ length out → k ≡ length (decimal (n / 10))
      → list ≡ over (decimal (n / 10)) out → Stored n k (n % 10 + 48) list out
  last_digit k list out l ek el =
      let room : k < length out = omega (arith, digits_more) in
      let same : length list ≡ length out = ap length el ∙ length_over _ _ (omega (arith, digits_more)) in
      record {
        room = omega arith;
        count = omega (arith, digits_more);
        text = rw (el, decimal-more n more small) (over-one _ _ _ _ (sym ek) room);
      }

-- the digits came back in a part that was lent from `at` on, k of them: room for the byte after them, and the whole then
module _ (n after at k : ℕ) (out ys : List ℕ) (h : at + number_room ≤ length out) (ek : k ≡ length (decimal n))
    (ey : ys ≡ over (decimal n) (lent out at)) where
  written : back out at ys ≡ over (take at out ++ decimal n) out
  written = over_lent (decimal n) out ys at (omega arith) ey

  ends : length (take at out ++ decimal n) ≡ at + k
  ends = length-append (take at out) (decimal n) ∙ rw (length-take-le at out (omega arith), ek)

  fits : at + k < length out
  fits = omega (arith, decimal_short n)

  pub after_room : at + k < length (back out at ys)
  after_room =
      let l : length (take at out ++ decimal n) ≤ length out = omega (arith, ends, fits) in
      rw (written, length_over (take at out ++ decimal n) out l) fits

  pub after-put : set (back out at ys) (at + k) after ≡ over (take at out ++ number_text n after) out
  after-put = rw (written, over-one (take at out ++ decimal n) out after (at + k) ends fits, append_assoc)
