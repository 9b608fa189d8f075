-- Refusals in the order in which they are tested, and what a call answers and leaves.
use Rattle.std.specs.Prelude.{Bool, cond, List, [], ◌∷◌, ℕ, zero, suc}

-- a refusal's number, and whether it is given
pub record Test : Type 0 where
  pub number : ℕ
  pub fails : Bool

infix 20 ◌if◌
abbrev pub ◌if◌ : ℕ → Bool → Test
n if b = record { number = n; fails = b }

-- "Checked in this order": the number of the first test that fails; "Success is 0."
unfoldable pub first : List Test → ℕ
first [] = 0
first (t ∷ l) = cond t.fails t.number (first l)

-- What a call answers, and what it leaves in the buffers that were lent to be written, in the order of its parameters.
-- A yes or no is the number 1 or 0.
pub record Outcome : Type 0 where
  pub refusal : ℕ
  pub numbers : List ℕ
  pub buffers : List (List ℕ)

abbrev pub zeros : List ℕ → List ℕ
zeros [] = []
zeros (n ∷ l) = 0 ∷ zeros l

-- "A refusal returns its number ..; no lent memory changes." `instead` is what a refusal answers in place of the call's numbers.
unfoldable pub settle : ℕ → List ℕ → List ℕ → List (List ℕ) → List (List ℕ) → Outcome
settle zero numbers instead left lent = record { refusal = 0; numbers = numbers; buffers = left }
settle (suc n) numbers instead left lent = record { refusal = suc n; numbers = instead; buffers = lent }

-- a call: its tests; the numbers that it answers if no test fails, and if one does; the buffers that it leaves if none fails; the
-- buffers as lent
unfoldable pub call_or : List Test → List ℕ → List ℕ → List (List ℕ) → List (List ℕ) → Outcome
call_or tests numbers instead left lent = settle (first tests) numbers instead left lent

-- "counts 0 and a "no" where there is a yes or no": a call that was refused answers zeros
unfoldable pub call : List Test → List ℕ → List (List ℕ) → List (List ℕ) → Outcome
call tests numbers left lent = settle (first tests) numbers (zeros numbers) left lent
