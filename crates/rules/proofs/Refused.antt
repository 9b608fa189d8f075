-- Laws of the first refusal, and of what a call answers and leaves.
use mathlib.Core.Path.{◌≡◌, refl, ap, sym, ◌∙◌}
use mathlib.Core.Bool.{Bool, true, false, cond, not, ◌&&◌, true≢false}
use mathlib.Core.List.{List, [], ◌∷◌, ◌++◌}
use Prim.Native.Nat.{ℕ, zero, suc}
use lib.Dec.{eqb}
use borrow.Author.Tests.{eq-eqb, ne_eqb, eqb-false}
use mir.Val.{bool_byte}
use Rattle.rules.specs.Base.{one}
use Rattle.rules.specs.Refusal.{Test, first, zeros, settle, call_or, call}

pub first_next : (t : Test) (l : List Test) → t.fails ≡ false → first (t ∷ l) ≡ first l
unfolding first
first_next t l h = rw h

-- where nothing is refused, the first test passed, and so did the others
pub first_zero : (t : Test) (l : List Test) → (t.number ≡ 0 → ⊥) → first (t ∷ l) ≡ 0 → (t.fails ≡ false) × (first l ≡ 0)
unfolding first
first_zero t l n h = go t.fails refl h
  where
    go : (b : Bool) → t.fails ≡ b → cond b t.number (first l) ≡ 0 → (t.fails ≡ false) × (first l ≡ 0)
    go true e h' = absurd (n h')
    go false e h' = (e, h')

-- no test of the list fails
unfoldable pub Passed : List Test → Type 0
Passed [] = Unit {0}
Passed (t ∷ l) = (t.fails ≡ false) × Passed l

-- no test of the list has the number n
unfoldable pub Without : ℕ → List Test → Type 0
Without n [] = Unit {0}
Without n (t ∷ l) = (t.number ≡ n → ⊥) × Without n l

-- antt computes that of a list whose numbers are written out
abbrev pub lacks : ℕ → List Test → Bool
lacks n [] = true
lacks n (t ∷ l) = not (eqb t.number n) && lacks n l

pub without : (n : ℕ) (l : List Test) → lacks n l ≡ true → Without n l
unfolding Without
without n [] h = tt
without n (t ∷ l) h = go (eqb t.number n) refl h (without n l)
  where
    go : (b : Bool) → eqb t.number n ≡ b → (not b && lacks n l) ≡ true → (lacks n l ≡ true → Without n l)
        → (t.number ≡ n → ⊥) × Without n l
    go true e h' ih = absurd (true≢false (sym h'))
    go false e h' ih = (eqb-false t.number n e, ih h')

-- a number other than 0 that no test has is not answered
pub first_never : (n : ℕ) (l : List Test) → (n ≡ 0 → ⊥) → Without n l → first l ≡ n → ⊥
unfolding Without first
first_never n [] z w e = z (sym e)
first_never n (t ∷ l) z w e = go t.fails e (first_never n l z w.1)
  where
    go : (b : Bool) → cond b t.number (first l) ≡ n → (first l ≡ n → ⊥) → ⊥
    go true e' ih = w.0 e'
    go false e' ih = ih e'

-- no test of the list has the number 0
abbrev pub Numbered : List Test → Type 0
Numbered l = Without 0 l

pub numbered : (l : List Test) → lacks 0 l ≡ true → Numbered l
numbered l h = without 0 l h

-- where nothing is refused, every test passed
pub passed : (l : List Test) → Numbered l → first l ≡ 0 → Passed l
unfolding Passed Without
passed [] n h = tt
passed (t ∷ l) n h = let p = first_zero t l n.0 h in (p.0, passed l n.1 p.1)

-- where nothing of a list is refused, nothing of its front is
pub first-front : (l m : List Test) → Numbered l → first (l ++ m) ≡ 0 → first l ≡ 0
unfolding Without first
first-front [] m n h = refl
first-front (t ∷ l) m n h = let p = first_zero t (l ++ m) n.0 h in rw p.0 (first-front l m n.1 p.1)

-- tests after others are reached where none of those fails
pub first-append : (l m : List Test) → Numbered l → first (l ++ m) ≡ cond (eqb (first l) 0) (first m) (first l)
unfolding first Without
first-append [] m n = refl
first-append (t ∷ l) m n = go t.fails (first-append l m n.1)
  where
    go : (b : Bool) → first (l ++ m) ≡ cond (eqb (first l) 0) (first m) (first l)
        → cond b t.number (first (l ++ m)) ≡ cond (eqb (cond b t.number (first l)) 0) (first m) (cond b t.number (first l))
    go true ih = rw (ne_eqb t.number 0 n.0)
    go false ih = ih

-- the first refusal is that of the tests before, or, where they passed, that of the tests after
pub first-before : (l m : List Test) (k : ℕ) → Numbered l → k ≡ first l → (k ≡ 0 → ⊥) → k ≡ first (l ++ m)
first-before l m k n e h = e ∙ sym (first-append l m n ∙ rw (ne_eqb (first l) 0 (λ z. h (e ∙ z))))

pub first-after : (l m : List Test) → Numbered l → first l ≡ 0 → first (l ++ m) ≡ first m
first-after l m n e = first-append l m n ∙ rw (eq-eqb (first l) 0 e)

module _ (tests : List Test) (numbers instead : List ℕ) (left lent : List (List ℕ)) where
  settled : (n : ℕ) → (n ≡ 0 → ⊥) → record { refusal = n; numbers = instead; buffers = lent } ≡ settle n numbers instead left lent
  unfolding settle
  settled zero z = absurd (z refl)
  settled (suc n) z = refl

  settled_refusal : (n : ℕ) → (settle n numbers instead left lent).refusal ≡ n
  unfolding settle
  settled_refusal zero = refl
  settled_refusal (suc n) = refl

  -- A call answers its first refusal.
  pub call_or_refusal : (call_or tests numbers instead left lent).refusal ≡ first tests
  unfolding call_or
  call_or_refusal = settled_refusal (first tests)

  -- An answer with the first refusal's number, what it answers instead and the buffers as lent is the call's.
  pub refused_or_is : (n : ℕ) → n ≡ first tests → (n ≡ 0 → ⊥)
      → record { refusal = n; numbers = instead; buffers = lent } ≡ call_or tests numbers instead left lent
  unfolding call_or
  refused_or_is n e h = settled n h ∙ ap (λ k. settle k numbers instead left lent) e

  -- Where nothing is refused, so is an answer 0 with the call's numbers and buffers.
  pub done_or_is : first tests ≡ 0
      → record { refusal = 0; numbers = numbers; buffers = left } ≡ call_or tests numbers instead left lent
  unfolding call_or settle
  done_or_is e = ap (λ k. settle k numbers instead left lent) (sym e)

-- The same of calls that answer zeros where they refuse.
module _ (tests : List Test) (numbers : List ℕ) (left lent : List (List ℕ)) where
  pub call_refusal : (call tests numbers left lent).refusal ≡ first tests
  unfolding call call_or
  call_refusal = call_or_refusal tests numbers (zeros numbers) left lent

  pub refused_is : (n : ℕ) → n ≡ first tests → (n ≡ 0 → ⊥)
      → record { refusal = n; numbers = zeros numbers; buffers = lent } ≡ call tests numbers left lent
  unfolding call call_or
  refused_is = refused_or_is tests numbers (zeros numbers) left lent

  pub done_is : first tests ≡ 0 → record { refusal = 0; numbers = numbers; buffers = left } ≡ call tests numbers left lent
  unfolding call call_or
  done_is = done_or_is tests numbers (zeros numbers) left lent

-- a yes or no that was cast to a number
pub one_byte : (b : Bool) → bool_byte b ≡ one b
one_byte true = refl
one_byte false = refl

-- Two answers that a contract allows are the same: every public contract says that its answer, with the buffers that the
-- call leaves, equals a definition of the inputs.
pub determined : {A : Type 0} {s a b : A} → a ≡ s → b ≡ s → a ≡ b
determined p q = p ∙ sym q
