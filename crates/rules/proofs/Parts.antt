-- A list that a loop writes part after part, each through the part of the buffer that starts where the ones before it end.
use mathlib.Core.Path.{◌≡◌, refl, ap, sym, ◌∙◌}
use mathlib.Core.List.{List, [], ◌++◌}
use Prim.Native.Nat.{ℕ, zero, suc, ◌+◌, ◌-◌, ◌*◌, ◌<◌, ◌≤◌}
use native.Mathlib.Nat.{mul-zero, mul-suc, mul-le-mul_left}
use native.Mathlib.Numerals.{add-one}
use native.Mathlib.Omega.{arith}
use lib.ListN.{length, take, drop, length-append, length-take, length-drop}
use Rattle.rules.specs.Base.{over}
use Rattle.rules.specs.Reading.{Reading, given, up_to}
use Rattle.rules.proofs.Over.{length_over, over-back}
use Rattle.rules.proofs.Readings.{given-more}

-- `whole i` is the first i of n parts one after the other, and each part has g bytes
pub record Parts (n : ℕ) (part whole : ℕ → List ℕ) (g : ℕ) : Type 0 where
  pub none : whole 0 ≡ []
  pub more : (i : ℕ) → i < n → whole (i + 1) ≡ whole i ++ part i
  pub each : (i : ℕ) → i < n → length (part i) ≡ g

-- part i ends before part n begins
pub part_ends : (g i n : ℕ) → i < n → g * i + g ≤ g * n
part_ends g i n h = rw (← mul-suc g i) (mul-le-mul_left g h)

module _ {n : ℕ} {part whole : ℕ → List ℕ} {g : ℕ} (p : Parts n part whole g) where
  pub length_whole : (i : ℕ) → i ≤ n → length (whole i) ≡ g * i
  length_whole zero h = ap length p.none ∙ sym (mul-zero g)
  length_whole (suc i) h =
      let l : i < n = omega arith in
      let ih : length (whole i) ≡ g * i = length_whole i (omega arith) in
      rw (← add-one, p.more i l, length-append, ih, p.each i l, add-one, mul-suc)

  pub begins : (old : List ℕ) → old ≡ over (whole 0) old
  unfolding over
  begins old = rw p.none

  -- one part more, as the part that was lent comes back; the buffer keeps its length
  pub again : (i : ℕ) (old xs ys : List ℕ) → i < n → g * n ≤ length old → xs ≡ over (whole i) old
      → ys ≡ over (part i) (take (length xs - g * i) (drop (g * i) xs))
      → let back = take (g * i) xs ++ (ys ++ drop (length xs - g * i) (drop (g * i) xs)) in
      (back ≡ over (whole (i + 1)) old) × (length back ≡ length old)
  again i old xs ys h l ex ey =
      let e : take (g * i) xs ++ (ys ++ drop (length xs - g * i) (drop (g * i) xs)) ≡ over (whole (i + 1)) old =
      rw (p.more i h) (over-back _ _ _ _ _ _ ex (length_whole i (omega arith)) ey) in
      let fits : length (whole (i + 1)) ≤ length old =
      rw (length_whole (i + 1) (omega arith), add-one, mul-suc) (omega (arith, part_ends g i n h)) in
      (e, ap length e ∙ length_over (whole (i + 1)) old fits)

-- the part of a buffer from part i on has room for it
pub room : (g i n : ℕ) (xs : List ℕ) → i < n → g * n ≤ length xs → g ≤ length (take (length xs - g * i) (drop (g * i) xs))
room g i n xs h l = simp (length-take, length-drop) (omega (arith, part_ends g i n h))

module _ (f : ℕ → Reading) (bank : List ℕ) (n g : ℕ) where
  -- what readings give, one after the other
  pub given_parts : ((i : ℕ) → length (given (f i) bank) ≡ g) → Parts n (λ i. given (f i) bank) (λ i. given (up_to i f) bank) g
  unfolding up_to given
  given_parts e = record { none = refl; more = λ i h. given-more f bank i; each = λ i h. e i }
