-- The way of a body through questions, to the one group that it can be of. Each group but the first has a question: does the body have
-- the byte values[g] at places[g]? A slot of links has a number. Where that is above half the slot's own, it is the question that is
-- asked there; else the way ends there, and it is the group. After question g a body is at slot 2·g on a yes, and at the next on a no.
-- It starts at slot 0.
use Rattle.std.specs.Prelude.{◌≡◌, Bool, true, cond, List, ℕ, zero, suc, ◌+◌, ◌*◌, ◌/◌, ◌<◌, ◌≤◌, eqb, ltb, length, get_or, set}
use Rattle.rules.specs.Split.{entry_limit, groups_before, group_of}
use Rattle.splitter.specs.Bodies.{body_size}
use Rattle.splitter.specs.declared.way.Questions.{Questions}
use Rattle.splitter.specs.declared.group.Groups.{Groups}

abbrev pub Asked : Type 0
Asked = Questions

-- what stands in slot s
abbrev pub link : Asked → ℕ → ℕ
link q s = get_or q.links s 0

-- the answer of a body to question g
abbrev pub says_yes : List ℕ → List ℕ → List ℕ → ℕ → Bool
says_yes places values b g = eqb (get_or b (get_or places g 0) 0) (get_or values g 0)

-- the slot after question g
unfoldable pub after : List ℕ → List ℕ → List ℕ → ℕ → ℕ
after places values b g = cond (says_yes places values b g) (2 * g) (2 * g + 1)

-- the way ends at slot s
abbrev pub Ends : Asked → ℕ → Type 0
Ends q s = link q s ≤ s / 2

-- the slot after slot s; a way that has ended stays where it is
unfoldable pub onward : Asked → List ℕ → ℕ → ℕ
onward q b s = cond (ltb (s / 2) (link q s)) (after q.places q.values b (link q s)) s

-- the slot after k questions
unfoldable pub slot_after : Asked → List ℕ → ℕ → ℕ
slot_after q b zero = 0
slot_after q b (suc k) = onward q b (slot_after q b k)

-- the links once question n stands in slot e: a way goes on to it from there, ends at n on a yes, and on a no where it ended before
abbrev pub here : List ℕ → ℕ → ℕ → List ℕ
here links n e = set links e n

abbrev pub on_yes : List ℕ → ℕ → ℕ → List ℕ
on_yes links n e = set (here links n e) (2 * n) n

abbrev pub on_no : List ℕ → ℕ → ℕ → List ℕ
on_no links n e = set (on_yes links n e) (2 * n + 1) (get_or links e 0)

-- question n, for byte v at place x, is added in slot e
abbrev pub more : Asked → ℕ → ℕ → ℕ → ℕ → Asked
more q n e x v = record { links = on_no q.links n e; places = set q.places n x; values = set q.values n v }

-- a body's way comes by slot s
pub record Passes (q : Asked) (b : List ℕ) (s : ℕ) : Type 0 where
  pub questions : ℕ
  pub there : slot_after q b questions ≡ s

-- every way through the questions of n groups ends, and asks for bytes that a body has
pub record Guides (q : Asked) (n : ℕ) : Type 0 where
  pub some : 0 < n
  pub most : n ≤ entry_limit
  pub links_size : length q.links ≡ 2 * entry_limit
  pub places_size : length q.places ≡ entry_limit
  pub values_size : length q.values ≡ entry_limit
  pub below : (s : ℕ) → s < 2 * n → link q s < n
  pub inside : (g : ℕ) → g < n → get_or q.places g 0 < body_size

-- from slot s on a body's way comes by slot r, where it ends or a question is answered with a yes
pub record Onto (q : Asked) (b : List ℕ) (n s r : ℕ) : Type 0 where
  pub within : r < 2 * n
  pub further : s / 2 ≤ r / 2
  pub passes : Passes q b r
  pub answered : r / 2 < link q r → says_yes q.places q.values b (link q r) ≡ true

-- s is where the way of a body ends
pub record Led (q : Asked) (b : List ℕ) (n s : ℕ) : Type 0 where
  pub within : s < 2 * n
  pub ends : Ends q s
  pub passes : Passes q b s

-- what is known of bodies f once i entries have their side: the groups, each with the entry that began it, and the way of that entry's
-- body ends at its group
pub record Known (f : ℕ → List ℕ) (i : ℕ) (g : Groups) : Type 0 where
  pub groups : g.count ≡ groups_before f i
  pub guides : Guides g.questions g.count
  pub firsts_size : length g.firsts ≡ entry_limit
  pub early : (h : ℕ) → h < g.count → get_or g.firsts h 0 < i
  pub number : (h : ℕ) → h < g.count → group_of f (get_or g.firsts h 0) ≡ h
  pub leads : (h k : ℕ) → h < g.count → Ends g.questions (slot_after g.questions (f (get_or g.firsts h 0)) k)
      → link g.questions (slot_after g.questions (f (get_or g.firsts h 0)) k) ≡ h
