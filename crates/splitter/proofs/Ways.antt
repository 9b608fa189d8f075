-- Laws of ways: each ends in one slot, and a question that is added where one way ends changes no other.
use mathlib.Core.Path.{◌≡◌, refl, ap, sym, ◌∙◌}
use mathlib.Core.Bool.{Bool, true, false, cond}
use mathlib.Core.List.{List}
use mathlib.Core.Logic.{◌⊎◌, inl, inr, ⊎_elim}
use Prim.Native.Nat.{ℕ, zero, suc, ◌+◌, ◌-◌, ◌*◌, ◌/◌, ◌<◌}
use native.Mathlib.Omega.{arith}
use native.Mathlib.Nat.{zero-add, suc-add}
use native.Mathlib.Decide.{dec_lt, ℕ_discrete}
use lib.Dec.{eqb}
use lib.ListN.{get_or, set, length-set}
use lib.Seq.{get_or-set_same, get_or-set_other}
use borrow.Author.Tests.{lt-ltb, le-ltb, eq-eqb, ne_eqb}
use Rattle.rules.specs.Split.{entry_limit}
use Rattle.splitter.specs.Bodies.{body_size}
use Rattle.splitter.specs.Way.{Asked, link, says_yes, after, Ends, onward, slot_after, Passes, Guides, Led}
use Rattle.splitter.specs.Way.{here, on_yes, more}

-- both slots after question g are of number g
half_after : (places values b : List ℕ) (g : ℕ) → after places values b g / 2 ≡ g
unfolding after
half_after places values b g = go (eqb (get_or b (get_or places g 0) 0) (get_or values g 0))
  where
    go : (t : Bool) → cond t (2 * g) (2 * g + 1) / 2 ≡ g
    go true = omega arith
    go false = omega arith

-- the question of one of n groups leads to one of 2·n slots
after_within : (places values b : List ℕ) (g n : ℕ) → g < n → after places values b g < 2 * n
after_within places values b g n h = omega (arith, half_after places values b g)

module _ (q : Asked) (b : List ℕ) where
  goes_on : (s : ℕ) → s / 2 < link q s → onward q b s ≡ after q.places q.values b (link q s)
  unfolding onward
  goes_on s h = rw (lt-ltb _ _ h)

  stays : (s : ℕ) → Ends q s → onward q b s ≡ s
  unfolding onward
  stays s h = rw (le-ltb _ _ h)

  pub starts : Passes q b 0
  unfolding slot_after
  starts = record { questions = 0; there = refl }

  passes_on : (s r : ℕ) → Passes q b s → s / 2 < link q s → after q.places q.values b (link q s) ≡ r → Passes q b r
  unfolding slot_after
  passes_on s r p h e = record { questions = suc p.questions; there = ap (onward q b) p.there ∙ goes_on s h ∙ e }

  -- after a yes, and after a no
  pub passes_yes : (s : ℕ) → Passes q b s → s / 2 < link q s → says_yes q.places q.values b (link q s) ≡ true
      → Passes q b (2 * link q s)
  unfolding after
  passes_yes s p h e = passes_on s (2 * link q s) p h (rw e)

  pub passes_no : (s : ℕ) → Passes q b s → s / 2 < link q s → says_yes q.places q.values b (link q s) ≡ false
      → Passes q b (2 * link q s + 1)
  unfolding after
  passes_no s p h e = passes_on s (2 * link q s + 1) p h (rw e)

  stays_on : (k j : ℕ) → Ends q (slot_after q b k) → slot_after q b (j + k) ≡ slot_after q b k
  unfolding slot_after
  stays_on k zero h = ap (slot_after q b) (zero-add k)
  stays_on k (suc j) h = ap (slot_after q b) (suc-add j k) ∙ ap (onward q b) (stays_on k j h) ∙ stays _ h

  -- a way ends in one slot
  ends_once : (k l : ℕ) → Ends q (slot_after q b k) → Ends q (slot_after q b l) → slot_after q b k ≡ slot_after q b l
  ends_once k l h m =
      elim (dec_lt k l) [
        | yes d ↦ let e : l ≡ (l - k) + k = omega arith in sym (ap (slot_after q b) e ∙ stays_on k (l - k) h)
        | no d ↦ let e : k ≡ (k - l) + l = omega (arith, d) in ap (slot_after q b) e ∙ stays_on l (k - l) m
      ]

  -- of n groups, no way leaves their slots
  within : (n : ℕ) → Guides q n → (k : ℕ) → slot_after q b k < 2 * n
  unfolding slot_after
  within n gd zero = omega (arith, gd.some)
  within n gd (suc k) =
      let s : ℕ = slot_after q b k in
      let ih : s < 2 * n = within n gd k in
      elim (dec_lt (s / 2) (link q s)) [
        | yes h ↦ rw (goes_on s h) (after_within _ _ _ _ _ (gd.below s ih))
        | no h ↦ let e : Ends q s = omega (arith, h) in rw (stays s e) ih
      ]

-- Question n, whether a body has b's byte at place x, is added in slot e, where the way of b ended.
module _ (q : Asked) (n : ℕ) (gd : Guides q n) (room : n < entry_limit) (b : List ℕ) (e x : ℕ) (led : Led q b n e) where
  abbrev q' : Asked
  q' = more q n e x (get_or b x 0)

  old_link : (s : ℕ) → s < 2 * n → (s ≡ e → ⊥) → link q' s ≡ link q s
  old_link s h d =
      get_or-set_other (on_yes q.links n e) (2 * n + 1) s (link q e) 0 (λ z. omega arith)
      ∙ get_or-set_other (here q.links n e) (2 * n) s n 0 (λ z. omega arith)
      ∙ get_or-set_other q.links e s n 0 d

  here-link : link q' e ≡ n
  here-link =
      let h = led.within in
      get_or-set_other (on_yes q.links n e) (2 * n + 1) e (link q e) 0 (λ z. omega arith)
      ∙ get_or-set_other (here q.links n e) (2 * n) e n 0 (λ z. omega arith)
      ∙ get_or-set_same q.links e n 0 (omega (arith, gd.links_size))

  yes_link : link q' (2 * n) ≡ n
  yes_link =
      get_or-set_other (on_yes q.links n e) (2 * n + 1) (2 * n) (link q e) 0 (λ z. omega arith)
      ∙ get_or-set_same (here q.links n e) (2 * n) n 0 (rw length-set (omega (arith, gd.links_size)))

  no_link : link q' (2 * n + 1) ≡ link q e
  no_link = get_or-set_same (on_yes q.links n e) (2 * n + 1) (link q e) 0 (rw (length-set, length-set) (omega (arith, gd.links_size)))

  old_after : (m : List ℕ) (g : ℕ) → g < n → after q'.places q'.values m g ≡ after q.places q.values m g
  unfolding after
  old_after m g h =
      rw (get_or-set_other q.places n g x 0 (λ z. omega arith), get_or-set_other q.values n g (get_or b x 0) 0 (λ z. omega arith))

  -- on a yes a way ends at n, on a no where it ended before
  new_after : (m : List ℕ) → after q'.places q'.values m n ≡ cond (eqb (get_or m x 0) (get_or b x 0)) (2 * n) (2 * n + 1)
  unfolding after
  new_after m =
      let p = get_or-set_same q.places n x 0 (omega (arith, gd.places_size)) in
      let v = get_or-set_same q.values n (get_or b x 0) 0 (omega (arith, gd.values_size)) in
      rw (p, v)

  new_ends : (t : Bool) → Ends q' (cond t (2 * n) (2 * n + 1))
  new_ends true = omega (arith, yes_link)
  new_ends false = omega (arith, no_link, gd.below e led.within)

  -- a way that came to the new question
  record New (m : List ℕ) (k : ℕ) : Type 0 where
    came : ℕ
    there : slot_after q m came ≡ e
    is : slot_after q' m k ≡ cond (eqb (get_or m x 0) (get_or b x 0)) (2 * n) (2 * n + 1)

  old_onward : (m : List ℕ) (s : ℕ) → s < 2 * n → (s ≡ e → ⊥) → onward q' m s ≡ onward q m s
  unfolding onward
  old_onward m s h d = rw (old_link s h d, old_after m (link q s) (gd.below s h))

  old_or_new : (m : List ℕ) (k : ℕ) → (slot_after q' m k ≡ slot_after q m k) ⊎ New m k
  unfolding slot_after
  old_or_new m zero = inl refl
  old_or_new m (suc k) = ⊎_elim old new (old_or_new m k)
    where
      old : slot_after q' m k ≡ slot_after q m k → (slot_after q' m (suc k) ≡ slot_after q m (suc k)) ⊎ New m (suc k)
      old p =
          elim (ℕ_discrete (slot_after q m k) e) [
            | yes h ↦ inr (record {
              came = k;
              there = h;
              is =
                  ap (onward q' m) (p ∙ h)
                  ∙ goes_on q' m e (omega (arith, here-link, led.within))
                  ∙ ap (after q'.places q'.values m) here-link
                  ∙ new_after m;
            })
            | no h ↦ inl (ap (onward q' m) p ∙ old_onward m (slot_after q m k) (within q m n gd k) h)
          ]

      new : New m k → (slot_after q' m (suc k) ≡ slot_after q m (suc k)) ⊎ New m (suc k)
      new w =
          inr (record {
            came = w.came;
            there = w.there;
            is = ap (onward q' m) w.is ∙ stays q' m _ (new_ends (eqb (get_or m x 0) (get_or b x 0)));
          })

  -- a way that ended at slot s, not where the question was added
  old_end : (m : List ℕ) (k : ℕ) → slot_after q' m k ≡ slot_after q m k → Ends q' (slot_after q' m k)
      → (slot_after q m k ≡ e → ⊥) × (Ends q (slot_after q m k) × (link q' (slot_after q' m k) ≡ link q (slot_after q m k)))
  old_end m k p h =
      let s : ℕ = slot_after q m k in
      let l : s < 2 * n = within q m n gd k in
      let f : Ends q' s = rw p at h in
      let d : s ≡ e → ⊥ = λ z. omega (arith, here-link, led.within, rw z at f) in
      let o : link q' s ≡ link q s = old_link s l d in
      (d, (omega arith, ap (link q') p ∙ o))

  -- a body that was led to group h, and differs from b at x where h is the group that b was led to, is led there still
  pub old_led : (m : List ℕ) (h : ℕ) → ((k : ℕ) → Ends q (slot_after q m k) → link q (slot_after q m k) ≡ h)
      → (h ≡ link q e → get_or m x 0 ≡ get_or b x 0 → ⊥)
      → (k : ℕ) → Ends q' (slot_after q' m k) → link q' (slot_after q' m k) ≡ h
  old_led m h before differs k f = ⊎_elim old new (old_or_new m k)
    where
      old : slot_after q' m k ≡ slot_after q m k → link q' (slot_after q' m k) ≡ h
      old p = let r = old_end m k p f in r.1.1 ∙ before k r.1.0

      new : New m k → link q' (slot_after q' m k) ≡ h
      new w =
          let c : link q e ≡ h = sym (ap (link q) w.there) ∙ before w.came (rw w.there led.ends) in
          let no : eqb (get_or m x 0) (get_or b x 0) ≡ false = ne_eqb _ _ (differs (sym c)) in
          ap (link q') (w.is ∙ rw no) ∙ no_link ∙ c

  -- b is led to the new group
  pub new_led : (k : ℕ) → Ends q' (slot_after q' b k) → link q' (slot_after q' b k) ≡ n
  new_led k f = ⊎_elim old new (old_or_new b k)
    where
      old : slot_after q' b k ≡ slot_after q b k → link q' (slot_after q' b k) ≡ n
      old p =
          let r = old_end b k p f in
          let w = led.passes in
          absurd (r.0 (ends_once q b k w.questions r.1.0 (rw w.there led.ends) ∙ w.there))

      new : New b k → link q' (slot_after q' b k) ≡ n
      new w = ap (link q') (w.is ∙ rw (eq-eqb (get_or b x 0) (get_or b x 0) refl)) ∙ yes_link

  -- the questions of one group more guide too
  pub more_guides : x < body_size → Guides q' (n + 1)
  more_guides inside =
      record {
        some = omega arith;
        most = omega arith;
        links_size = rw (length-set, length-set, length-set) gd.links_size;
        places_size = rw length-set gd.places_size;
        values_size = rw length-set gd.values_size;
        below = below;
        inside = places;
      }
    where
      old : (s : ℕ) → s < 2 * n → link q' s < n + 1
      old s h =
          elim (ℕ_discrete s e) [
            | yes z ↦ rw z (omega (arith, here-link))
            | no z ↦ omega (arith, old_link s h z, gd.below s h)
          ]

      below : (s : ℕ) → s < 2 * (n + 1) → link q' s < n + 1
      below s h =
          elim (dec_lt s (2 * n)) [
            | yes l ↦ old s l
            | no l ↦ elim (ℕ_discrete s (2 * n)) [
              | yes z ↦ rw z (omega (arith, yes_link))
              | no z ↦ let k : s ≡ 2 * n + 1 = omega (arith, l, z) in rw k (omega (arith, no_link, gd.below e led.within))
            ]
          ]

      places : (g : ℕ) → g < n + 1 → get_or (set q.places n x) g 0 < body_size
      places g h =
          elim (ℕ_discrete g n) [
            | yes z ↦ rw (z, get_or-set_same q.places n x 0 (omega (arith, gd.places_size))) inside
            | no z ↦ rw (get_or-set_other q.places n g x 0 z) (gd.inside g (omega (arith, z)))
          ]
