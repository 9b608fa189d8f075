-- The splitter: a side for each entry, 0 for tuning and 1 for held out.
use Rattle.std.specs.Prelude.{true, false, not, List, [], ◌∷◌, ℕ, zero, suc, ◌+◌, ◌*◌, ◌%◌, eqb, ltb, length, drop}
use Rattle.rules.specs.Base.{one, tab, record_of, same, how_many}
use Rattle.rules.specs.Refusal.{Test, ◌if◌, Outcome, call}

-- "up to 4,096 entries"
abbrev pub entry_limit : ℕ
entry_limit = 4096

-- "of 4,117 bytes in one lent buffer"
abbrev pub entry_size : ℕ
entry_size = 4117

-- "a capture number (four bytes)"
abbrev pub capture_size : ℕ
capture_size = 4

-- entry i in all but the capture number: "the lister's sixteen bytes, the lane and the key"
unfoldable pub body_at : List ℕ → ℕ → List ℕ
body_at entries i = drop capture_size (record_of entry_size entries i)

-- of bodies f 0, f 1, ..: the first from j on that is b, or, where none of `more` is, the one after these
unfoldable pub first_from : (ℕ → List ℕ) → List ℕ → ℕ → ℕ → ℕ
first_from f b j zero = j
first_from f b j (suc more) = elim (same (f j) b) [ true ↦ j | false ↦ first_from f b (suc j) more ]

-- the first entry of entry i's group, which is "Entries that agree in all but the capture number"
unfoldable pub first_of : (ℕ → List ℕ) → ℕ → ℕ
first_of f i = first_from f (f i) 0 i

-- how many groups begin before entry i
unfoldable pub groups_before : (ℕ → List ℕ) → ℕ → ℕ
groups_before f zero = 0
groups_before f (suc i) = one (eqb (first_of f i) i) + groups_before f i

-- the number of entry i's group, from 0, "in order of first entry"
unfoldable pub group_of : (ℕ → List ℕ) → ℕ → ℕ
group_of f i = groups_before f (first_of f i)

-- "of every five groups .., the fifth is held out"
abbrev pub turn : ℕ → ℕ
turn group = one (eqb (group % 5) 4)

-- "The side is that of the group's first entry, which takes turns by group"
unfoldable pub side : (ℕ → List ℕ) → ℕ → ℕ
side f i = turn (group_of f i)

-- "a side for each (a byte, 0 tuning or 1 held out)"
unfoldable pub sides : (ℕ → List ℕ) → ℕ → List ℕ
sides f n = tab n (side f)

-- "the two entry totals": how many are on a side
abbrev pub total : ℕ → List ℕ → ℕ
total n l = how_many (eqb n) l

-- "16, a stated count above 4,096, then 17, an entry buffer that is not 4,117 bytes an entry or a side buffer that is not one."
abbrev pub split_tests : ℕ → List ℕ → List ℕ → List Test
split_tests count entries out =
    (16 if ltb entry_limit count)
    ∷ (17 if not (eqb (length entries) (count * entry_size)))
    ∷ (17 if not (eqb (length out) count))
    ∷ []

unfoldable pub split_call : ℕ → List ℕ → List ℕ → Outcome
split_call count entries out =
    let s : List ℕ = sides (body_at entries) count in
    call (split_tests count entries out) (total 0 s ∷ total 1 s ∷ []) (s ∷ []) (out ∷ [])
