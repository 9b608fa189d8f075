-- Laws of readings: what a reading gives and reads of banks that agree, and of readings one after the other.
use mathlib.Core.Path.{◌≡◌, refl, ap, sym, ◌∙◌}
use mathlib.Core.List.{List, [], ◌∷◌, ◌++◌}
use Prim.Native.Nat.{ℕ, zero, suc, ◌+◌, ◌*◌, ◌/◌, ◌%◌}
use native.Mathlib.Omega.{arith}
use native.Mathlib.Nat.{suc-mul, zero-mul}
use native.Mathlib.Numerals.{add-one}
use lib.ListN.{length, get_or, length-append}
use Rattle.rules.specs.Reading.{Reading, give, ask, given, trail, prepend, and_then, up_to, Agree, encoded}

-- banks that agree wherever the first one's reading reads are read the same way and give the same
pub agree_trail : (r : Reading) (b c : List ℕ) → Agree (trail r b) b c → trail r c ≡ trail r b
unfolding trail Agree
agree_trail (give t) b c h = refl
agree_trail (ask a k) b c h = rw (← h.0) (ap (λ l. a ∷ l) (agree_trail (k (get_or b a 0)) b c h.1))

pub agree_given : (r : Reading) (b c : List ℕ) → Agree (trail r b) b c → given r c ≡ given r b
unfolding trail given Agree
agree_given (give t) b c h = refl
agree_given (ask a k) b c h = rw (← h.0) (agree_given (k (get_or b a 0)) b c h.1)

given-prepend : (t : List ℕ) (r : Reading) (b : List ℕ) → given (prepend t r) b ≡ t ++ given r b
unfolding given prepend
given-prepend t (give u) b = refl
given-prepend t (ask a k) b = given-prepend t (k (get_or b a 0)) b

trail-prepend : (t : List ℕ) (r : Reading) (b : List ℕ) → trail (prepend t r) b ≡ trail r b
unfolding trail prepend
trail-prepend t (give u) b = refl
trail-prepend t (ask a k) b = ap (λ l. a ∷ l) (trail-prepend t (k (get_or b a 0)) b)

pub given_then : (r s : Reading) (b : List ℕ) → given (and_then r s) b ≡ given r b ++ given s b
unfolding given and_then
given_then (give t) s b = given-prepend t s b
given_then (ask a k) s b = given_then (k (get_or b a 0)) s b

pub trail_then : (r s : Reading) (b : List ℕ) → trail (and_then r s) b ≡ trail r b ++ trail s b
unfolding trail and_then
trail_then (give t) s b = trail-prepend t s b
trail_then (ask a k) s b = ap (λ l. a ∷ l) (trail_then (k (get_or b a 0)) s b)

-- one reading more of a row of them
pub given-more : (f : ℕ → Reading) (b : List ℕ) (n : ℕ) → given (up_to (n + 1) f) b ≡ given (up_to n f) b ++ given (f n) b
unfolding up_to
given-more f b n = rw add-one (given_then (up_to n f) (f n) b)

pub trail_more : (f : ℕ → Reading) (b : List ℕ) (n : ℕ) → trail (up_to (n + 1) f) b ≡ trail (up_to n f) b ++ trail (f n) b
unfolding up_to
trail_more f b n = rw add-one (trail_then (up_to n f) (f n) b)

pub encoded-append : (l m : List ℕ) → encoded (l ++ m) ≡ encoded l ++ encoded m
unfolding encoded
encoded-append [] m = refl
encoded-append (a ∷ l) m = ap (λ r. (a / 256 % 256) ∷ (a % 256) ∷ r) (encoded-append l m)

pub encoded-more : (f : ℕ → Reading) (b : List ℕ) (n : ℕ)
    → encoded (trail (up_to (n + 1) f) b) ≡ encoded (trail (up_to n f) b) ++ encoded (trail (f n) b)
encoded-more f b n = ap encoded (trail_more f b n) ∙ encoded-append (trail (up_to n f) b) (trail (f n) b)

pub length-encoded : (l : List ℕ) → length (encoded l) ≡ 2 * length l
unfolding encoded
length-encoded [] = refl
length-encoded (a ∷ l) = rw (length-encoded l) (omega arith)

-- readings that each give g bytes give n times g together; so with their reads
pub given-length : (f : ℕ → Reading) (b : List ℕ) (g n : ℕ) → ((i : ℕ) → length (given (f i) b) ≡ g) → length (given (up_to n f) b) ≡ n * g
unfolding up_to given
given-length f b g zero h = sym (zero-mul g)
given-length f b g (suc n) h = rw (given_then, length-append, given-length f b g n h, h n, suc-mul)

pub trail-length : (f : ℕ → Reading) (b : List ℕ) (g n : ℕ) → ((i : ℕ) → length (trail (f i) b) ≡ g) → length (trail (up_to n f) b) ≡ n * g
unfolding up_to trail
trail-length f b g zero h = sym (zero-mul g)
trail-length f b g (suc n) h = rw (trail_then, length-append, trail-length f b g n h, h n, suc-mul)
