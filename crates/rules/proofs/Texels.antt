-- A texel of a picture, by its index: readings of equal length, one after the other.
use mathlib.Core.Path.{◌≡◌, ap, ◌∙◌}
use mathlib.Core.List.{List, ◌++◌}
use Prim.Native.Nat.{ℕ, zero, suc, ◌+◌, ◌*◌, ◌<◌, ◌≤◌}
use native.Mathlib.Omega.{arith}
use native.Mathlib.Decide.{ℕ_discrete}
use native.Mathlib.Nat.{suc-mul, mul_assoc, mul-le-mul_right, le_of_eq}
use lib.ListN.{length, take, drop, length-drop}
use lib.Seq.{drop-append-le, drop-append-add, take-append-le, take_all}
use Rattle.rules.specs.Key.{texel_at}
use Rattle.rules.specs.Reading.{Reading, given, up_to}
use Rattle.rules.proofs.Readings.{given_then, given-length}

-- m bytes of the row's reading number i, k bytes from its start on, where each reading gives g bytes
pub part_of : (f : ℕ → Reading) (b : List ℕ) (g n i k m : ℕ) → ((j : ℕ) → length (given (f j) b) ≡ g) → i < n → k + m ≤ g
    → take m (drop (i * g + k) (given (up_to n f) b)) ≡ take m (drop k (given (f i) b))
unfolding up_to
part_of f b g zero i k m s p q = absurd (omega arith)
part_of f b g (suc n) i k m s p q = rw (given_then (up_to n f) (f n) b) (go (ℕ_discrete i n) (part_of f b g n i k m s))
  where
    front : List ℕ
    front = given (up_to n f) b

    len : length front ≡ n * g
    len = given-length f b g n s

    go : Dec (i ≡ n) → (i < n → k + m ≤ g → take m (drop (i * g + k) front) ≡ take m (drop k (given (f i) b)))
        → take m (drop (i * g + k) (front ++ given (f n) b)) ≡ take m (drop k (given (f i) b))
    go (yes e) ih =
        rw (e, ← len) (ap (take m) (drop-append-add front (given (f n) b) k))
    go (no e) ih =
        let l : i < n = omega arith in
        let r : suc i * g ≤ n * g = mul-le-mul_right g l in
        let a : i * g + k ≤ length front = omega (arith, suc-mul i g, len) in
        let z : m ≤ length (drop (i * g + k) front) = simp length-drop (omega (arith, suc-mul i g, len)) in
        rw (drop-append-le (i * g + k) front (given (f n) b) a, take-append-le m (drop (i * g + k) front) (given (f n) b) z) (ih l q)

-- Readings in n rows of w, each of four bytes.
module _ (n w : ℕ) (f : ℕ → ℕ → Reading) where
  -- texel y·w + x of the picture is what reading x of row y gives
  pub texel_of : (b : List ℕ) (y x : ℕ) → ((y x : ℕ) → length (given (f y x) b) ≡ 4) → y < n → x < w
      → texel_at (y * w + x) (given (up_to n (λ y. up_to w (f y))) b) ≡ given (f y x) b
  unfolding texel_at
  texel_of b y x s p q =
      let row : (y : ℕ) → length (given (up_to w (f y)) b) ≡ w * 4 = λ y. given-length (f y) b 4 w (s y) in
      let place : 4 * (y * w + x) ≡ y * (w * 4) + x * 4 = omega (arith, mul_assoc y w 4) in
      let fits : x * 4 + 4 ≤ w * 4 = omega arith in
      let whole : take 4 (given (f y x) b) ≡ given (f y x) b = take_all 4 (given (f y x) b) (le_of_eq (s y x)) in
      let start : x * 4 ≡ x * 4 + 0 = omega arith in
      let four : 0 + 4 ≤ 4 = omega arith in
      rw place
      (part_of (λ y. up_to w (f y)) b (w * 4) n y (x * 4) 4 row p fits
      ∙ rw start (part_of (f y) b 4 w x 0 4 (s y) q four)
      ∙ whole)
