-- Lists, choices, bits and maps: the words that every rule uses.
use Rattle.std.specs.Prelude.{Bool, true, false, cond, not, ◌&&◌, ◌||◌, List, [], ◌∷◌, ◌++◌, ℕ, zero, suc, ◌+◌, ◌*◌, ◌/◌, ◌%◌, ◌^◌, eqb}
use Rattle.std.specs.Prelude.{length, get_or, set, take, drop}
use Rattle.std.specs.Int.Bits.{bit_or}

-- a number for a yes or a no
abbrev pub one : Bool → ℕ
one b = cond b 1 0

-- n is odd
abbrev pub odd : ℕ → Bool
odd n = eqb (n % 2) 1

-- f i, f (i + 1), .. n of them
unfoldable pub tab_from : {A : Type 0} → ℕ → ℕ → (ℕ → A) → List A
tab_from i zero f = []
tab_from i (suc n) f = f i ∷ tab_from (suc i) n f

-- f 0, f 1, .. f (n - 1)
unfoldable pub tab : {A : Type 0} → ℕ → (ℕ → A) → List A
tab n f = tab_from 0 n f

-- the lists of a list, one after the other
unfoldable pub concat : {A : Type 0} → List (List A) → List A
concat [] = []
concat (l ∷ ls) = l ++ concat ls

-- record i of an input of records of so many bytes; the last may be torn
abbrev pub record_of : ℕ → List ℕ → ℕ → List ℕ
record_of size input i = take size (drop (i * size) input)

-- a is in the list
unfoldable pub mem : ℕ → List ℕ → Bool
mem a [] = false
mem a (x ∷ l) = eqb a x || mem a l

-- f holds of something in the list
unfoldable pub any : {A : Type 0} → (A → Bool) → List A → Bool
any f [] = false
any f (x ∷ l) = f x || any f l

-- f holds of all in the list
unfoldable pub all : {A : Type 0} → (A → Bool) → List A → Bool
all f [] = true
all f (x ∷ l) = f x && all f l

-- there is nothing in the list
abbrev pub empty : {A : Type 0} → List A → Bool
empty [] = true
empty (x ∷ l) = false

-- the two lists have the same numbers
unfoldable pub same : List ℕ → List ℕ → Bool
same [] [] = true
same [] (y ∷ m) = false
same (x ∷ l) [] = false
same (x ∷ l) (y ∷ m) = eqb x y && same l m

-- of how many in the list f holds
unfoldable pub how_many : {A : Type 0} → (A → Bool) → List A → ℕ
how_many f [] = 0
how_many f (x ∷ l) = one (f x) + how_many f l

-- the number of addresses below n that are in l
unfoldable pub distinct : ℕ → List ℕ → ℕ
distinct zero l = 0
distinct (suc n) l = one (mem n l) + distinct n l

-- new written over the front of old: "the surplus keeps its bytes"
unfoldable pub over : List ℕ → List ℕ → List ℕ
over new old = new ++ drop (length new) old

-- "Maps: address a is bit a mod 8 of byte a div 8."
unfoldable pub is_marked : List ℕ → ℕ → Bool
is_marked map a = odd (get_or map (a / 8) 0 / 2 ^ (a % 8))

-- the map with address a marked as well
unfoldable pub marked : List ℕ → ℕ → List ℕ
marked map a = set map (a / 8) (bit_or (get_or map (a / 8) 0) (2 ^ (a % 8)))

-- the map with every address of a list marked as well
unfoldable pub marks : List ℕ → List ℕ → List ℕ
marks map [] = map
marks map (a ∷ l) = marks (marked map a) l

-- "The written record shall hold, for every address, the number of the last load that stored there, counted from 1 since the fresh
-- state, 0 for none"; "two an address, big end first"
unfoldable pub number_at : List ℕ → ℕ → ℕ
number_at map a = 256 * get_or map (2 * a) 0 + get_or map (2 * a + 1) 0

-- "An address counts as written when its number is not 0"
unfoldable pub is_written : List ℕ → ℕ → Bool
is_written map a = not (eqb (number_at map a) 0)

-- the record with the number n at address a
unfoldable pub stamped : ℕ → List ℕ → ℕ → List ℕ
stamped n map a = set (set map (2 * a) (n / 256)) (2 * a + 1) (n % 256)

-- the record with the number n at every address of a list
unfoldable pub stamps : ℕ → List ℕ → List ℕ → List ℕ
stamps n map [] = map
stamps n map (a ∷ l) = stamps n (stamped n map a) l
