-- `splitter::group::Groups::group_of`: a body that is known is led to its group. Assumes nothing.
use mathlib.Core.Path.{◌≡◌, ap, ◌∙◌}
use mathlib.Core.List.{List}
use Prim.Native.Nat.{ℕ, ◌<◌}
use native.Mathlib.Omega.{arith}
use lib.ListN.{length, get_or}
use Rattle.rules.specs.Split.{entry_limit, body_at}
use Rattle.splitter.specs.Bodies.{body_size}
use Rattle.splitter.specs.Way.{Asked, link, Led}
use Rattle.splitter.proofs.Bodies.{body_length, bodies_same}
use Rattle.splitter.proofs.Groups.{below, fits, old_group, old_known, new_group, new_known}
use Rattle.splitter.proofs.group.Groups.group_of.Goals.{After-lead-slot, Else-place-eq-BODY_SIZE}
use Rattle.splitter.proofs.group.Groups.group_of.Goals as goal

abbrev questions : After-lead-slot → Asked
questions c = c.args.self.now.questions

abbrev bodies : After-lead-slot → ℕ → List ℕ
bodies c = body_at c.args.entries.now

-- where the way of the entry's body ends
led : (c : After-lead-slot) → Led (questions c) (bodies c c.args.i) c.args.self.now.count c.lead-slot.result
led c = rw c.body_at-body.ensures at c.lead-slot.ensures

-- the entry that began the group that it ends at
abbrev first : After-lead-slot → ℕ
first c = get_or c.args.self.now.firsts (link (questions c) c.lead-slot.result) 0

early : (c : After-lead-slot) → first c < c.args.i
early c = c.requires.known.early _ (below (bodies c) _ _ c.requires.known _ (led c))

-- both bodies have their bytes
own-length : (c : After-lead-slot) → length (bodies c c.args.i) ≡ body_size
own-length c = body_length _ _ c.requires.entry_within

first-length : (c : After-lead-slot) → length (bodies c (first c)) ≡ body_size
first-length c = body_length _ _ (omega (arith, early c, c.requires.entry_within))

-- another body: there is room for its group, and the place where it differs is one of the body
room : (c : Else-place-eq-BODY_SIZE) → c.args.self.now.count < entry_limit
room c = fits _ _ _ c.requires.known _ (led (goal.at.Else-place-eq-BODY_SIZE c).After-lead-slot) c.requires.room

place_inside : (c : Else-place-eq-BODY_SIZE) → c.differ-place.result < body_size
place_inside c = omega (arith, c.differ-place.ensures.within, c.if-place-eq-BODY_SIZE.false)

pub returns-then-place-eq-BODY_SIZE : goal.returns-then-place-eq-BODY_SIZE
returns-then-place-eq-BODY_SIZE c =
    let l = (goal.at.returns-then-place-eq-BODY_SIZE c).After-lead-slot in
    -- the body is that of the group's first entry
    let all = rw (c.body_at-body.ensures, c.body_at.ensures, c.if-place-eq-BODY_SIZE.true) at c.differ-place.ensures.same_up_to in
    let same : bodies l c.args.i ≡ bodies l (first l) = bodies_same _ _ (own-length l) (first-length l) all in
    record {
      group = old_group _ _ _ c.requires.known _ (led l) same;
      known_after = old_known _ _ _ c.requires.known _ (led l) same;
    }

pub bounds-body-place : goal.bounds-body-place
bounds-body-place c =
    let size = ap length c.body_at-body.ensures ∙ own-length (goal.at.bounds-body-place c).After-lead-slot in
    omega (arith, size, place_inside (goal.at.bounds-body-place c).Else-place-eq-BODY_SIZE)

pub begin-requires-clause-room : goal.begin-requires-clause-room
begin-requires-clause-room c =
    (room (goal.at.begin-requires-clause-room c).Else-place-eq-BODY_SIZE, c.lead-slot.ensures.within, c.requires.room)

pub returns : goal.returns
returns c =
    let e = (goal.at.returns c).Else-place-eq-BODY_SIZE in
    let way = led (goal.at.returns c).After-lead-slot in
    let known = c.requires.known in
    let limit = c.requires.room in
    let b = c.begin.ensures in
    let inside = place_inside e in
    let differs = (rw (c.body_at-body.ensures, c.body_at.ensures) at c.differ-place.ensures.differ_there) inside in
    record {
      group = new_group _ _ _ known _ way _ limit inside differs;
      known_after = new_known _ _ _ known _ way _ limit inside differs _ _ c.body_at-body.ensures b.count_after b.firsts_after
          b.questions_after;
    }
