-- The splitter's promises: one side a group, totals that add up, and sides that later entries do not change.
use mathlib.Core.Path.{◌≡◌, refl, ap, ap₂, sym, ◌∙◌}
use mathlib.Core.Bool.{Bool, true, false, cond, false≢true, ◌&&◌}
use mathlib.Core.List.{List, [], ◌∷◌, ◌++◌}
use Prim.Native.Nat.{ℕ, zero, suc, ◌+◌, ◌-◌, ◌*◌, ◌%◌, ◌<◌, ◌≤◌}
use native.Mathlib.Omega.{arith}
use native.Mathlib.Decide.{dec_lt}
use native.Mathlib.Nat.{zero-add, suc-add}
use native.Mathlib.Numerals.{add-one}
use lib.Dec.{eqb}
use lib.ListN.{length, take, drop}
use borrow.Author.Tests.{eqb-true, eq-eqb, ne_eqb, ltb-false, not-false}
use Rattle.rules.specs.Base.{one, tab, tab_from, record_of, same, how_many}
use Rattle.rules.specs.Refusal.{first}
use Rattle.rules.specs.Split.{entry_limit, entry_size, capture_size, body_at, first_from, first_of}
use Rattle.rules.specs.Split.{groups_before, group_of, turn, side, sides, total, split_tests, split_call}
use Rattle.rules.proofs.MadeUp.{how_many-append}
use Rattle.rules.proofs.Records.{take-drop-take}
use Rattle.rules.proofs.Refused.{Passed, passed, numbered, done_is}
use Rattle.rules.proofs.Tables.{tab-more, tab-same, take-tab}

-- `same` is equality
pub same_refl : (l : List ℕ) → same l l ≡ true
unfolding same
same_refl [] = refl
same_refl (a ∷ l) = rw (eq-eqb a a refl) (same_refl l)

pub same_is : (l m : List ℕ) → same l m ≡ true → l ≡ m
unfolding same
same_is [] [] h = refl
same_is [] (b ∷ m) h = absurd (false≢true h)
same_is (a ∷ l) [] h = absurd (false≢true h)
same_is (a ∷ l) (b ∷ m) h = go (eqb a b) refl h (same_is l m)
  where
    go : (t : Bool) → eqb a b ≡ t → (t && same l m) ≡ true → (same l m ≡ true → l ≡ m) → a ∷ l ≡ b ∷ m
    go true e h' ih = let p : a ≡ b = eqb-true a b e in let q : l ≡ m = ih h' in λ i. p i ∷ q i
    go false e h' ih = absurd (false≢true h')

-- r is the first of `more` bodies from j on that is b, or the one after these
record First (f : ℕ → List ℕ) (b : List ℕ) (j more r : ℕ) : Type 0 where
  from : j ≤ r
  to : r ≤ j + more
  before : (i : ℕ) → j ≤ i → i < r → f i ≡ b → ⊥
  found : r < j + more → f r ≡ b

other : (f : ℕ → List ℕ) (b : List ℕ) (j i : ℕ) → same (f j) b ≡ false → f i ≡ b → i ≡ j → ⊥
other f b j i e q k = false≢true (sym e ∙ ap (λ n. same (f n) b) (sym k) ∙ ap (λ l. same l b) q ∙ same_refl b)

first_is : (f : ℕ → List ℕ) (b : List ℕ) (j more : ℕ) → First f b j more (first_from f b j more)
unfolding first_from
first_is f b j zero =
    record {
      from = omega arith;
      to = omega arith;
      before = λ i l m e. absurd (omega arith);
      found = λ l. absurd (omega arith);
    }
first_is f b j (suc more) = go (same (f j) b) refl (first_is f b (suc j) more)
  where
    go : (t : Bool) → same (f j) b ≡ t → First f b (suc j) more (first_from f b (suc j) more)
        → First f b j (suc more) (elim t [ true ↦ j | false ↦ first_from f b (suc j) more ])
    go true e ih =
        record {
          from = omega arith;
          to = omega arith;
          before = λ i l m q. absurd (omega arith);
          found = λ l. same_is (f j) b e;
        }
    go false e ih =
        let past : (i : ℕ) → j ≤ i → i < first_from f b (suc j) more → f i ≡ b → Dec (j < i) → ⊥ = λ i l m q d. elim d [
          | yes h ↦ ih.before i (omega arith) m q
          | no h ↦ other f b j i e q (omega (arith, h))
        ] in
        record {
          from = omega (arith, ih.from);
          to = omega (arith, ih.to);
          before = λ i l m q. past i l m q (dec_lt j i);
          found = λ l. ih.found (omega arith);
        }

-- the first entry of a group is one of it, and none before it is
module _ (f : ℕ → List ℕ) (i : ℕ) where
  pub first_within : first_of f i ≤ i
  unfolding first_of
  first_within = omega (arith, (first_is f (f i) 0 i).to)

  pub first-same : f (first_of f i) ≡ f i
  unfolding first_of
  first-same =
      let r : ℕ = first_from f (f i) 0 i in
      let k = first_is f (f i) 0 i in
      elim (dec_lt r i) [
        | yes h ↦ k.found (omega arith)
        | no h ↦ let e : r ≡ i = omega (arith, k.to, h) in ap f e
      ]

  pub first_least : (j : ℕ) → f j ≡ f i → first_of f i ≤ j
  unfolding first_of
  first_least j e =
      elim (dec_lt j (first_from f (f i) 0 i)) [
        | yes h ↦ absurd ((first_is f (f i) 0 i).before j (omega arith) h e)
        | no h ↦ omega (arith, h)
      ]

-- "Entries that agree in all but the capture number always get the same side."
pub same_first : (f : ℕ → List ℕ) (i j : ℕ) → f i ≡ f j → first_of f i ≡ first_of f j
same_first f i j e =
    let l = first_least f i (first_of f j) (first-same f j ∙ sym e) in
    let m = first_least f j (first_of f i) (first-same f i ∙ e) in
    omega arith

pub same_group : (f : ℕ → List ℕ) (i j : ℕ) → f i ≡ f j → group_of f i ≡ group_of f j
unfolding group_of
same_group f i j e = ap (groups_before f) (same_first f i j e)

pub same-side : (f : ℕ → List ℕ) (i j : ℕ) → f i ≡ f j → side f i ≡ side f j
unfolding side
same-side f i j e = ap turn (same_group f i j e)

-- "The side is that of the group's first entry"
pub side_of_first : (f : ℕ → List ℕ) (i : ℕ) → side f i ≡ side f (first_of f i)
side_of_first f i = same-side f i (first_of f i) (sym (first-same f i))

-- the first entry of a group is its own first
pub first-first : (f : ℕ → List ℕ) (i : ℕ) → first_of f (first_of f i) ≡ first_of f i
first-first f i = same_first f (first_of f i) i (first-same f i)

-- an entry that begins a group is one group more, and no other is
module _ (f : ℕ → List ℕ) (i : ℕ) where
  pub groups_more : first_of f i ≡ i → groups_before f (suc i) ≡ suc (groups_before f i)
  unfolding groups_before
  groups_more e = rw (eq-eqb (first_of f i) i e) (omega arith)

  pub groups_stay : first_of f i < i → groups_before f (suc i) ≡ groups_before f i
  unfolding groups_before
  groups_stay h = rw (ne_eqb (first_of f i) i (λ e. omega arith)) (omega arith)

  groups_grow : groups_before f i ≤ groups_before f (suc i)
  unfolding groups_before
  groups_grow = go (eqb (first_of f i) i)
    where
      go : (t : Bool) → groups_before f i ≤ one t + groups_before f i
      go true = omega arith
      go false = omega arith

-- there are no more groups than entries
pub groups_most : (f : ℕ → List ℕ) (i : ℕ) → groups_before f i ≤ i
unfolding groups_before
groups_most f zero = omega arith
groups_most f (suc i) = go (eqb (first_of f i) i) (groups_most f i)
  where
    go : (t : Bool) → groups_before f i ≤ i → one t + groups_before f i ≤ suc i
    go true h = omega arith
    go false h = omega arith

groups_rise : (f : ℕ → List ℕ) (i more : ℕ) → groups_before f i ≤ groups_before f (more + i)
groups_rise f i zero = rw zero-add (omega arith)
groups_rise f i (suc more) =
    let h = groups_rise f i more in
    let g = groups_grow f (more + i) in
    rw suc-add (omega arith)

-- Groups are numbered in order of first entry: of two entries that begin one, the earlier has the lower number.
pub groups_order : (f : ℕ → List ℕ) (i j : ℕ) → first_of f i ≡ i → i < j → groups_before f i < groups_before f j
groups_order f i j e h =
    let more : ℕ = j - suc i in
    let k : j ≡ more + suc i = omega arith in
    let r = groups_rise f (suc i) more in
    let s = groups_more f i e in
    rw k (omega arith)

-- an entry's group is new exactly where it has the next number
pub groups_with : (f : ℕ → List ℕ) (i : ℕ)
    → cond (eqb (group_of f i) (groups_before f i)) (groups_before f i + 1) (groups_before f i) ≡ groups_before f (i + 1)
unfolding group_of
groups_with f i =
    elim (dec_lt (first_of f i) i) [
      | yes h ↦
          let l = groups_order f (first_of f i) i (first-first f i) h in
          rw (ne_eqb (groups_before f (first_of f i)) (groups_before f i) (λ e. omega arith), add-one i) (sym (groups_stay f i h))
      | no h ↦
          let e : first_of f i ≡ i = omega (arith, h, first_within f i) in
          rw (eq-eqb (groups_before f (first_of f i)) (groups_before f i) (ap (groups_before f) e), add-one (groups_before f i), add-one i)
          (sym (groups_more f i e))
    ]

-- Entries have one group's number exactly when they agree in all but the capture number.
pub group_same : (f : ℕ → List ℕ) (i j : ℕ) → group_of f i ≡ group_of f j → f i ≡ f j
unfolding group_of
group_same f i j e =
    let a : ℕ = first_of f i in
    let b : ℕ = first_of f j in
    let same : a ≡ b =
    elim (dec_lt a b) [
      | yes h ↦ absurd (let l = groups_order f a b (first-first f i) h in omega arith)
      | no h ↦ elim (dec_lt b a) [
        | yes k ↦ absurd (let l = groups_order f b a (first-first f j) k in omega arith)
        | no k ↦ omega (arith, h, k)
      ]
    ] in
    sym (first-same f i) ∙ ap f same ∙ first-same f j

-- "Two inputs that agree on the first n entries give the same first n sides.": it is enough that the first n bodies agree
module _ (f g : ℕ → List ℕ) (n : ℕ) (agree : (i : ℕ) → i < n → f i ≡ g i) where
  from_agrees : (b : List ℕ) (j more : ℕ) → j + more ≤ n → first_from f b j more ≡ first_from g b j more
  unfolding first_from
  from_agrees b j zero h = refl
  from_agrees b j (suc more) h =
      ap₂ (λ (l : List ℕ) (r : ℕ). elim (same l b) [ true ↦ j | false ↦ r ])
      (agree j (omega arith))
      (from_agrees b (suc j) more (omega arith))

  first_agrees : (i : ℕ) → i < n → first_of f i ≡ first_of g i
  unfolding first_of
  first_agrees i h = from_agrees (f i) 0 i (omega arith) ∙ ap (λ b. first_from g b 0 i) (agree i h)

  groups_agree : (i : ℕ) → i ≤ n → groups_before f i ≡ groups_before g i
  unfolding groups_before
  groups_agree zero h = refl
  groups_agree (suc i) h =
      ap₂ (λ (r k : ℕ). one (eqb r i) + k) (first_agrees i (omega arith)) (groups_agree i (omega arith))

  pub side_agrees : (i : ℕ) → i < n → side f i ≡ side g i
  unfolding side group_of
  side_agrees i h =
      ap turn (groups_agree (first_of f i) (omega (arith, first_within f i)) ∙ ap (groups_before g) (first_agrees i h))

  pub prefix_sides : (p q : ℕ) → take n (sides f (n + p)) ≡ take n (sides g (n + q))
  unfolding sides
  prefix_sides p q = take-tab n p (side f) ∙ tab-same n (side f) (side g) side_agrees ∙ sym (take-tab n q (side g))

-- the first n bodies agree where the first n entries do
pub entries_agree : (d e : List ℕ) (n : ℕ) → take (n * entry_size) d ≡ take (n * entry_size) e
    → (i : ℕ) → i < n → body_at d i ≡ body_at e i
unfolding body_at
entries_agree d e n h i l =
    let front : (x : List ℕ) → record_of entry_size (take (n * entry_size) x) i ≡ record_of entry_size x i =
    λ x. take-drop-take (i * entry_size) (n * entry_size) entry_size x (omega arith) in
    ap (drop capture_size) (sym (front d) ∙ ap (λ x. record_of entry_size x i) h ∙ front e)

-- "the two entry totals, and these add to the number of entries"
totals_from : (f : ℕ → List ℕ) (i n : ℕ) → total 0 (tab_from i n (side f)) + total 1 (tab_from i n (side f)) ≡ n
unfolding tab_from how_many side
totals_from f i zero = refl
totals_from f i (suc n) = go (eqb (group_of f i % 5) 4) (totals_from f (suc i) n)
  where
    go : (t : Bool) → total 0 (tab_from (suc i) n (side f)) + total 1 (tab_from (suc i) n (side f)) ≡ n
        → total 0 (one t ∷ tab_from (suc i) n (side f)) + total 1 (one t ∷ tab_from (suc i) n (side f)) ≡ suc n
    go true ih = omega arith
    go false ih = omega arith

pub totals_add : (f : ℕ → List ℕ) (n : ℕ) → total 0 (sides f n) + total 1 (sides f n) ≡ n
unfolding sides tab
totals_add f n = totals_from f 0 n

pub held_out_within : (f : ℕ → List ℕ) (n : ℕ) → total 1 (sides f n) ≤ n
held_out_within f n = omega (arith, totals_add f n)

-- of no entries
pub no_sides : (f : ℕ → List ℕ) (out : List ℕ) → length out ≡ 0 → out ≡ sides f (length out)
unfolding sides tab tab_from
no_sides f [] e = refl
no_sides f (s ∷ out) e = absurd (omega arith)

pub no_totals : (f : ℕ → List ℕ) (out : List ℕ) → length out ≡ 0 → total 1 (sides f (length out)) ≡ 0
no_totals f out e = omega (arith, totals_add f (length out))

-- the first entry is of group 0, on the tuning side
pub first_group : (f : ℕ → List ℕ) → group_of f 0 ≡ 0
unfolding group_of first_of first_from groups_before
first_group f = refl

pub one_group : (f : ℕ → List ℕ) → groups_before f 1 ≡ 1
unfolding first_of first_from groups_before
one_group f = refl

pub one_side : (f : ℕ → List ℕ) → sides f 1 ≡ 0 ∷ []
unfolding sides side tab tab_from
one_side f = rw (first_group f)

pub none_held_out : (f : ℕ → List ℕ) → total 1 (sides f 1) ≡ 0
unfolding how_many
none_held_out f = ap (total 1) (one_side f)

-- one entry more stands at the end, on the side of its group
pub sides-more : (f : ℕ → List ℕ) (i : ℕ) → sides f (i + 1) ≡ sides f i ++ (turn (group_of f i) ∷ [])
unfolding sides side
sides-more f i = tab-more i (side f)

held_out_one : (group : ℕ) → total 1 (turn group ∷ []) ≡ turn group
unfolding how_many
held_out_one group = go (eqb (group % 5) 4)
  where
    go : (t : Bool) → total 1 (one t ∷ []) ≡ one t
    go true = refl
    go false = refl

pub turn-most : (group : ℕ) → turn group ≤ 1
turn-most group = go (eqb (group % 5) 4)
  where
    go : (t : Bool) → one t ≤ 1
    go true = omega arith
    go false = omega arith

pub held_out_more : (f : ℕ → List ℕ) (i : ℕ) → total 1 (sides f (i + 1)) ≡ total 1 (sides f i) + turn (group_of f i)
held_out_more f i =
    ap (total 1) (sides-more f i)
    ∙ how_many-append (eqb 1) (sides f i) (turn (group_of f i) ∷ [])
    ∙ rw (held_out_one (group_of f i))

-- where nothing is refused, the buffers are those of the stated entries
pub record Taken (count : ℕ) (entries out : List ℕ) : Type 0 where
  pub most : count ≤ entry_limit
  pub entries_size : length entries ≡ count * entry_size
  pub sides_size : length out ≡ count

pub taken : (count : ℕ) (entries out : List ℕ) → first (split_tests count entries out) ≡ 0 → Taken count entries out
unfolding Passed
taken count entries out z =
    let p = passed (split_tests count entries out) (numbered (split_tests count entries out) refl) z in
    record {
      most = ltb-false _ _ p.0;
      entries_size = eqb-true _ _ (not-false _ p.1.0);
      sides_size = eqb-true _ _ (not-false _ p.1.1.0);
    }

-- so an answer of both totals is the call's
pub split_done : (count held : ℕ) (entries out left : List ℕ) → first (split_tests count entries out) ≡ 0
    → left ≡ sides (body_at entries) count → held ≡ total 1 (sides (body_at entries) count)
    → record { refusal = 0; numbers = (count - held) ∷ held ∷ []; buffers = left ∷ [] } ≡ split_call count entries out
unfolding split_call
split_done count held entries out left z l h =
    let s : List ℕ = sides (body_at entries) count in
    let t : count - held ≡ total 0 s = omega (arith, totals_add (body_at entries) count) in
    rw (t, h, l) (done_is (split_tests count entries out) _ _ _ z)
