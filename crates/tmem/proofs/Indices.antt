-- The list of four by its places, and bounds of the numbers that make it.
use mathlib.Core.Path.{◌≡◌, refl, ap, sym, ◌∙◌}
use mathlib.Core.Bool.{Bool, true, false, cond, ◌||◌}
use mathlib.Core.List.{List, [], ◌∷◌}
use Prim.Native.Nat.{ℕ, zero, suc, ◌+◌, ◌*◌, ◌/◌, ◌%◌, ◌^◌, ◌<◌, ◌≤◌}
use native.Mathlib.Nat.{mul-le-mul, div-one}
use native.Mathlib.Decide.{ℕ_discrete}
use native.Mathlib.Omega.{arith}
use lib.ListN.{length, get_or, set, length-set}
use lib.Seq.{get_or-set_same, get_or-set_other}
use lib.Bits.{bit_and, bit_xor, and_high, xor_mod, xor_shr, xor_zero_r}
use lib.Dec.{eqb, leb, leb→le}
use mir.Val.{bool_byte}
use borrow.Author.Tests.{eq-eqb, ne_eqb}
use Rattle.rules.specs.Load.{LoadTile, halfword, list4, put, spot}
use Rattle.rules.proofs.Computed.{all, computed, agree_below}
use Rattle.tmem.specs.Part.{column_shift, Spots}

-- a product of numbers that have bounds
pub product_within : (m n a b : ℕ) → a ≤ m → b ≤ n → a * b ≤ m * n
product_within m n a b h k = mul-le-mul h k

-- the shift from a column's number to its halfword's
pub shift_within : (t : LoadTile) → column_shift t ≤ 2
shift_within t = go (eqb t.fmt 1 || eqb t.siz 1) (eqb t.siz 0)
  where
    go : (a b : Bool) → cond a 1 (cond b 2 0) ≤ 2
    go true b = omega arith
    go false true = omega arith
    go false false = omega arith

pub shifted : (t : LoadTile) (s : ℕ) → s / 2 ^ column_shift t % 2048 ≡ halfword t s
shifted t s = go (eqb t.fmt 1 || eqb t.siz 1) (eqb t.siz 0)
  where
    go : (a b : Bool) → s / 2 ^ cond a 1 (cond b 2 0) % 2048 ≡ cond a (s / 2) (cond b (s / 4) s) % 2048
    go true b = refl
    go false true = refl
    go false false = rw (div-one s)

-- an odd row's xor stays in the word
record Xored (n o x : ℕ) : Type 0 where
  pub word_is : x / 4 ≡ n / 4
  pub place_is : x % 4 ≡ (n + o) % 4

xored : (n o : ℕ) → o ≤ 2 → o % 2 ≡ 0 → Xored n o (bit_xor n o)
xored n o h e = go (ℕ_discrete o 0)
  where
    two_on : bit_xor n 2 % 4 ≡ (n + 2) % 4
    two_on =
        let m : n % 4 < 4 = omega arith in
        let r : (n % 4 + 2) % 4 ≡ (n + 2) % 4 = omega arith in
        xor_mod n 2 2 ∙ agree_below 4 (λ r. bit_xor r 2) (λ r. (r + 2) % 4) tt (n % 4) m ∙ r

    go : Dec (o ≡ 0) → Xored n o (bit_xor n o)
    go (yes z) = rw (z, xor_zero_r n) (record { word_is = refl; place_is = omega arith })
    go (no z) =
        let two : o ≡ 2 = omega arith in
        rw two (record { word_is = xor_shr n 2 2 ∙ xor_zero_r (n / 4); place_is = two_on })

spot_xored : (f o i : ℕ) → Spots f o → Xored ((f + i) % 2048) o (spot f o i)
spot_xored f o i s = xored ((f + i) % 2048) o s.odd_in s.odd_even

-- the halfword at place k of the list: the rule's n that is k mod 4
abbrev pub late : ℕ → ℕ → ℕ → ℕ
late f o k = bool_byte (eqb k o) * (f % 4)

pub late_within : (f o k : ℕ) → late f o k ≤ 3
late_within f o k = go (eqb k o)
  where
    go : (b : Bool) → bool_byte b * (f % 4) ≤ 3
    go true = omega arith
    go false = omega arith

abbrev placed : ℕ → ℕ → ℕ → ℕ
placed f o k = (f / 4 * 4 + k + 4 * late f o k) % 2048

-- the halfword of m's word whose place is o, and m in its word, by word and place
first_of_word : (m o x : ℕ) → m % 4 ≡ 0 → x / 4 ≡ m % 2048 / 4 → x % 4 ≡ o → x ≡ (m + o) % 2048
first_of_word m o x z w p = omega arith

any_of_word : (m x : ℕ) → x / 4 ≡ m % 2048 / 4 → x ≡ (m / 4 * 4 + x % 4) % 2048
any_of_word m x w = omega arith

starts_late : (f i : ℕ) → f % 4 < 2 → i < 4 → (f + i) % 4 ≡ 0 → f + i ≡ f / 4 * 4 + 4 * (f % 4)
starts_late f i h k z = omega arith

stays : (f i : ℕ) → f % 4 < 2 → i < 4 → ((f + i) % 4 ≡ 0 → ⊥) → (f + i) / 4 ≡ f / 4
stays f i h k z = omega arith

spot_placed : (f o i : ℕ) → Spots f o → i < 4 → spot f o i ≡ placed f o (spot f o i % 4)
spot_placed f o i s h = go (spot f o i) (spot_xored f o i s) (ℕ_discrete (spot f o i % 4) o)
  where
    go : (x : ℕ) → Xored ((f + i) % 2048) o x → Dec (x % 4 ≡ o) → x ≡ placed f o (x % 4)
    go x r (yes e) =
        let z : (f + i) % 4 ≡ 0 = omega (arith, s.odd_in, r.place_is) in
        rw (eq-eqb (x % 4) o e) (omega (arith, first_of_word (f + i) o x z r.word_is e, starts_late f i s.first_low h z, e))
    go x r (no e) =
        let z : (f + i) % 4 ≡ 0 → ⊥ = λ z. e (omega (arith, s.odd_in, r.place_is)) in
        rw (ne_eqb (x % 4) o e) (omega (arith, any_of_word (f + i) x r.word_is, stays f i s.first_low h z))

-- what the list holds there
abbrev held : ℕ → ℕ → ℕ → ℕ
held f o k = 2 * (placed f o k % 1024)

-- a place that is not set later holds what it was set to
set_held : (f o : ℕ) (l : List ℕ) (i k : ℕ) → Spots f o → i < 4 → length l ≡ 4
    → ((k ≡ spot f o i % 4 → ⊥) → get_or l k 0 ≡ held f o k)
    → get_or (set l (spot f o i % 4) (2 * (spot f o i % 1024))) k 0 ≡ held f o k
set_held f o l i k s h n before = go (ℕ_discrete k (spot f o i % 4))
  where
    go : Dec (k ≡ spot f o i % 4) → get_or (set l (spot f o i % 4) (2 * (spot f o i % 1024))) k 0 ≡ held f o k
    go (yes e) =
        rw (e, get_or-set_same l (spot f o i % 4) (2 * (spot f o i % 1024)) 0 (omega (arith, n)))
        (ap (λ x. 2 * (x % 1024)) (spot_placed f o i s h))
    go (no e) = rw (get_or-set_other l (spot f o i % 4) k (2 * (spot f o i % 1024)) 0 e) (before e)

-- the four halfwords take the four places
place_taken : (f o k : ℕ) → Spots f o → k < 4
    → (k ≡ spot f o 0 % 4 → ⊥)
    → (k ≡ spot f o 1 % 4 → ⊥)
    → (k ≡ spot f o 2 % 4 → ⊥)
    → (k ≡ spot f o 3 % 4 → ⊥)
    → ⊥
place_taken f o k s h e₀ e₁ e₂ e₃ = go ((k + 3 * (f + o)) % 4) (omega arith) (omega arith)
  where
    at : (i : ℕ) → spot f o i % 4 ≡ (f + i + o) % 4
    at i = omega (arith, (spot_xored f o i s).place_is)

    go : (i : ℕ) → i < 4 → k ≡ (f + i + o) % 4 → ⊥
    go zero m e = e₀ (e ∙ sym (at 0))
    go (suc zero) m e = e₁ (e ∙ sym (at 1))
    go (suc (suc zero)) m e = e₂ (e ∙ sym (at 2))
    go (suc (suc (suc zero))) m e = e₃ (e ∙ sym (at 3))
    go (suc (suc (suc (suc i)))) m e = omega arith

pub place_held : (f o k : ℕ) → Spots f o → k < 4 → held f o k ≡ get_or (list4 f o) k 0
unfolding list4
place_held f o k s h =
    sym
    (set_held f o l₂ 3 k s (omega arith) four₂ (λ e₃.
    set_held f o l₁ 2 k s (omega arith) four₁ (λ e₂.
    set_held f o l₀ 1 k s (omega arith) four₀ (λ e₁.
    set_held f o (0 ∷ 0 ∷ 0 ∷ 0 ∷ []) 0 k s (omega arith) refl (λ e₀.
    absurd (place_taken f o k s h e₀ e₁ e₂ e₃))))))
  where
    l₀ : List ℕ
    l₀ = put (0 ∷ 0 ∷ 0 ∷ 0 ∷ []) (spot f o 0)

    l₁ : List ℕ
    l₁ = put l₀ (spot f o 1)

    l₂ : List ℕ
    l₂ = put l₁ (spot f o 2)

    four₀ : length l₀ ≡ 4
    four₀ = length-set {A = ℕ} (0 ∷ 0 ∷ 0 ∷ 0 ∷ []) (spot f o 0 % 4) (2 * (spot f o 0 % 1024))

    four₁ : length l₁ ≡ 4
    four₁ = length-set l₀ (spot f o 1 % 4) (2 * (spot f o 1 % 1024)) ∙ four₀

    four₂ : length l₂ ≡ 4
    four₂ = length-set l₁ (spot f o 2 % 4) (2 * (spot f o 2 % 1024)) ∙ four₁

-- the list place at which a split word starts leaves room for the next
pub start_below : (h o : ℕ) → o < 2 → bit_xor (bit_and h 2) (o * 2) ≤ 2
start_below h o q =
    rw (and_high h 1 1)
    (leb→le _ 2 (computed 2 (fits (h / 2 % 2)) (computed 2 (λ b. all 2 (fits b)) tt (h / 2 % 2) (omega arith)) o q))
  where
    fits : ℕ → ℕ → Bool
    fits b o = leb (bit_xor (b * 2) (o * 2)) 2
