-- Laws of what is known of the groups: entry i is of the group that its body was led to, where it has the body of that group's first
-- entry, and else begins a new group.
use mathlib.Core.Path.{◌≡◌, ap, sym, subst, ◌∙◌}
use mathlib.Core.List.{List}
use Prim.Native.Nat.{ℕ, suc, ◌+◌, ◌*◌, ◌<◌}
use native.Mathlib.Omega.{arith}
use native.Mathlib.Numerals.{add-one}
use native.Mathlib.Decide.{dec_lt, ℕ_discrete}
use lib.ListN.{get_or, set, length-set, replicate, length-replicate}
use lib.Seq.{get_or-set_same, get_or-set_other}
use Rattle.rules.specs.Split.{entry_limit, first_of, groups_before, group_of}
use Rattle.rules.proofs.Maps.{zeros_at}
use Rattle.rules.proofs.Splits.{first_within, first_least, first-first, same_group, group_same}
use Rattle.rules.proofs.Splits.{groups_more, groups_stay, groups_most, groups_order, one_group, first_group}
use Rattle.splitter.specs.Bodies.{body_size}
use Rattle.splitter.specs.declared.group.Groups.{Groups}
use Rattle.splitter.specs.Way.{Asked, link, Ends, slot_after, Guides, Led, Known, more}
use Rattle.splitter.proofs.Ways.{old_led, new_led, more_guides}

module _ (f : ℕ → List ℕ) (i : ℕ) (g : Groups) (kn : Known f i g) (s : ℕ) (led : Led g.questions (f i) g.count s) where
  abbrev q : Asked
  q = g.questions

  abbrev n : ℕ
  n = g.count

  abbrev firsts : List ℕ
  firsts = g.firsts

  abbrev first : ℕ
  first = get_or firsts (link q s) 0

  pub below : link q s < n
  below = kn.guides.below s led.within

  pub old_group : f i ≡ f first → link q s ≡ group_of f i
  old_group e = sym (same_group f i first e ∙ kn.number (link q s) below)

  pub old_known : f i ≡ f first → Known f (i + 1) g
  old_known e =
      let l : first_of f i < i = omega (arith, first_least f i first (sym e), kn.early (link q s) below) in
      record {
        groups = rw add-one (kn.groups ∙ sym (groups_stay f i l));
        guides = kn.guides;
        firsts_size = kn.firsts_size;
        early = λ h b. omega (arith, kn.early h b);
        number = kn.number;
        leads = kn.leads;
      }

  -- a body that is known was led to its group
  begins : (f i ≡ f first → ⊥) → first_of f i ≡ i
  unfolding group_of
  begins other =
      elim (dec_lt (first_of f i) i) [
        | yes h ↦
            let o : ℕ = group_of f i in
            let b : o < n = omega (arith, groups_order f (first_of f i) i (first-first f i) h, kn.groups) in
            let same : f i ≡ f (get_or firsts o 0) = sym (group_same f (get_or firsts o 0) i (kn.number o b)) in
            let w = led.passes in
            let there : slot_after q (f (get_or firsts o 0)) w.questions ≡ s =
            ap (λ m. slot_after q m w.questions) (sym same) ∙ w.there in
            let is : link q s ≡ o = sym (ap (link q) there) ∙ kn.leads o w.questions b (rw there led.ends) in
            absurd (other (same ∙ ap (λ m. f (get_or firsts m 0)) (sym is)))
        | no h ↦ omega (arith, h, first_within f i)
      ]

  pub fits : i < entry_limit → n < entry_limit
  fits room = omega (arith, kn.groups, groups_most f i)

  module _ (x : ℕ) (room : i < entry_limit) (inside : x < body_size) (differs : get_or (f i) x 0 ≡ get_or (f first) x 0 → ⊥) where
    abbrev q' : Asked
    q' = more q n s x (get_or (f i) x 0)

    new_first : first_of f i ≡ i
    new_first = begins (λ e. differs (ap (λ b. get_or b x 0) e))

    pub new_group : n ≡ group_of f i
    unfolding group_of
    new_group = kn.groups ∙ ap (groups_before f) (sym new_first)

    at_new : get_or (set firsts n i) n 0 ≡ i
    at_new = get_or-set_same firsts n i 0 (omega (arith, kn.firsts_size, fits room))

    at_old : (h : ℕ) → (h ≡ n → ⊥) → get_or (set firsts n i) h 0 ≡ get_or firsts h 0
    at_old h d = get_or-set_other firsts n h i 0 d

    early : (h : ℕ) → h < n + 1 → get_or (set firsts n i) h 0 < i + 1
    early h l =
        elim (ℕ_discrete h n) [
          | yes z ↦ rw (z, at_new) (omega arith)
          | no z ↦ omega (arith, at_old h z, kn.early h (omega (arith, z)))
        ]

    number : (h : ℕ) → h < n + 1 → group_of f (get_or (set firsts n i) h 0) ≡ h
    number h l =
        elim (ℕ_discrete h n) [
          | yes z ↦ rw (z, at_new) (sym new_group)
          | no z ↦ rw (at_old h z) (kn.number h (omega (arith, z)))
        ]

    leads : (h k : ℕ) → h < n + 1 → Ends q' (slot_after q' (f (get_or (set firsts n i) h 0)) k)
        → link q' (slot_after q' (f (get_or (set firsts n i) h 0)) k) ≡ h
    leads h k l =
        elim (ℕ_discrete h n) [
          | yes z ↦ rw (z, at_new) (new_led q n kn.guides (fits room) (f i) s x led k)
          | no z ↦ rw (at_old h z) (
              old_led q n kn.guides (fits room) (f i) s x led (f (get_or firsts h 0)) h
              (λ j. kn.leads h j (omega (arith, z)))
              (λ e d. differs (sym d ∙ ap (λ m. get_or (f (get_or firsts m 0)) x 0) e))
              k
              )
        ]

    -- the groups with the new one
    abbrev g' : Groups
    g' = record { count = n + 1; firsts = set firsts n i; questions = q' }

    with_question : Known f (i + 1) g'
    with_question =
        record {
          groups = rw (add-one n, add-one i) (ap suc kn.groups ∙ sym (groups_more f i new_first));
          guides = more_guides q n kn.guides (fits room) (f i) s x led inside;
          firsts_size = rw length-set kn.firsts_size;
          early = early;
          number = number;
          leads = leads;
        }

    pub new_known : (b : List ℕ) (now : Groups) → b ≡ f i → now.count ≡ n + 1 → now.firsts ≡ set firsts n i
        → now.questions ≡ more q n s x (get_or b x 0) → Known f (i + 1) now
    new_known b now e c d a =
        let is : now.questions ≡ q' = a ∙ ap (λ m. more q n s x (get_or m x 0)) e in
        let same : now ≡ g' = λ j. record { count = c j; firsts = d j; questions = is j } in
        subst (λ m. Known f (i + 1) m) (sym same) with_question

abbrev none : Asked
none = record { links = replicate (2 * entry_limit) 0; places = replicate entry_limit 0; values = replicate entry_limit 0 }

none_guides : Guides none 1
none_guides =
    record {
      some = omega arith;
      most = omega arith;
      links_size = length-replicate {A = ℕ} (2 * entry_limit) 0;
      places_size = length-replicate {A = ℕ} entry_limit 0;
      values_size = length-replicate {A = ℕ} entry_limit 0;
      below = λ s h. omega (arith, zeros_at (2 * entry_limit) s);
      inside = λ g h. omega (arith, zeros_at entry_limit g);
    }

-- The first entry begins group 0, at which every way ends.
pub start_known : (f : ℕ → List ℕ) → Known f 1 (record { count = 1; firsts = replicate entry_limit 0; questions = none })
start_known f =
    record {
      groups = sym (one_group f);
      guides = none_guides;
      firsts_size = length-replicate {A = ℕ} entry_limit 0;
      early = λ h l. omega (arith, zeros_at entry_limit h);
      number = λ h l. let e : h ≡ 0 = omega arith in rw (zeros_at entry_limit h, e) (first_group f);
      leads = λ h k l e. omega (arith, zeros_at (2 * entry_limit) (slot_after none (f (get_or (replicate entry_limit 0) h 0)) k));
    }
