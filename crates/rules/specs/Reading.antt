-- A reading of a bank: it gives bytes, or asks for the byte at an address and goes on with it.
-- Picture, trail, count of reads and key all come from one reading.
use Rattle.std.specs.Prelude.{◌≡◌, List, [], ◌∷◌, ◌++◌, ℕ, zero, suc, ◌/◌, ◌%◌, get_or}

pub data Reading : Type 0 where
  give : List ℕ → Reading
  ask : ℕ → (ℕ → Reading) → Reading

-- what the reading gives of a bank
unfoldable pub given : Reading → List ℕ → List ℕ
given (give t) b = t
given (ask a k) b = given (k (get_or b a 0)) b

-- the addresses that it reads, in order
unfoldable pub trail : Reading → List ℕ → List ℕ
trail (give t) b = []
trail (ask a k) b = a ∷ trail (k (get_or b a 0)) b

-- the bytes t given first
unfoldable pub prepend : List ℕ → Reading → Reading
prepend t (give u) = give (t ++ u)
prepend t (ask a k) = ask a (λ v. prepend t (k v))

-- one reading after the other
unfoldable pub and_then : Reading → Reading → Reading
and_then (give t) s = prepend t s
and_then (ask a k) s = ask a (λ v. and_then (k v) s)

-- f 0, f 1, .. f (n - 1), one after the other
unfoldable pub up_to : ℕ → (ℕ → Reading) → Reading
up_to zero f = give []
up_to (suc n) f = and_then (up_to n f) (f n)

-- two banks agree at every address of a list
unfoldable pub Agree : List ℕ → List ℕ → List ℕ → Type 0
Agree [] b c = Unit {0}
Agree (a ∷ l) b c = (get_or b a 0 ≡ get_or c a 0) × Agree l b c

-- "a trail crosses as two bytes an address, big end first"
unfoldable pub encoded : List ℕ → List ℕ
encoded [] = []
encoded (a ∷ l) = (a / 256 % 256) ∷ (a % 256) ∷ encoded l
