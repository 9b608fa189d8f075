-- An offered key beside the bank and the notes of what was read.
use Rattle.std.specs.Prelude.{Bool, not, List, ℕ, ◌+◌, ◌<◌, Option, Some, None, eqb, get_or}
use Rattle.rules.specs.Check.{Lowest, wrong_kind, said}
use Rattle.key.specs.Notes.{kept_by}

-- the offer has the byte that the bank and its note make at an address; and it has not
abbrev pub right_by : List ℕ → List ℕ → List ℕ → ℕ → Bool
right_by bank notes offer a = eqb (kept_by (get_or bank a 0) (get_or notes a 0)) (get_or offer a 0)

abbrev pub wrong_by : List ℕ → List ℕ → List ℕ → ℕ → Bool
wrong_by bank notes offer a = not (right_by bank notes offer a)

-- the lowest of i, i + 1, .. n of them of which f holds, if there is one
abbrev pub LowestOf : ℕ → ℕ → (ℕ → Bool) → Option ℕ → Type 0
LowestOf i n f None = Lowest i n f (i + n)
LowestOf i n f (Some a) = Lowest i n f a × (a < i + n)

-- what a check says whose lowest wrong address is a, by the notes
abbrev pub said_at : List ℕ → List ℕ → List ℕ → ℕ → List ℕ
said_at bank notes offer a = said a (wrong_kind (eqb (get_or notes a 0) 1) (get_or bank a 0) (get_or offer a 0))
