-- Laws of the reasons, document 02's item 8: what a load leaves at an address; which reason the question gives, and when it gives none.
use mathlib.Core.Path.{◌≡◌, refl, ap, sym, ◌∙◌}
use mathlib.Core.Bool.{Bool, true, false, cond, ◌||◌, true≢false}
use mathlib.Core.List.{List, [], ◌∷◌, ◌++◌}
use Prim.Native.Nat.{ℕ, zero, suc, ◌<◌}
use native.Mathlib.Decide.{ℕ_discrete}
use native.Mathlib.Omega.{arith}
use lib.Dec.{eqb}
use lib.ListN.{length, get_or, set, length-set}
use lib.Seq.{get_or-set_same, get_or-set_other}
use borrow.Author.Tests.{eq-eqb, ne_eqb, eqb-true}
use Rattle.rules.specs.Base.{mem}
use Rattle.rules.specs.Tile.{Tile}
use Rattle.rules.specs.Load.{Store, addresses, reasoned}
use Rattle.rules.specs.Reach.{reach, palette_order, or_else, first_reason, rejection}

-- stores leave their reason list after list, and keep the length
pub reasoned-append : (n : ℕ) (l k : List Store) (m : List ℕ) → reasoned n (l ++ k) m ≡ reasoned n k (reasoned n l m)
unfolding reasoned
reasoned-append n [] k m = refl
reasoned-append n (s ∷ l) k m = reasoned-append n l k _

pub length-reasoned : (n : ℕ) (l : List Store) (m : List ℕ) → length (reasoned n l m) ≡ length m
unfolding reasoned
length-reasoned n [] m = refl
length-reasoned n (s ∷ l) m = length-reasoned n l _ ∙ length-set m s.at _

-- The reason at an address after a load is the load's where it stored, 0 for an ordinary one, else the old one.
pub reason_at : (n : ℕ) (l : List Store) (m : List ℕ) (a : ℕ) → a < length m
    → get_or (reasoned n l m) a 0 ≡ cond (mem a (addresses l)) n (get_or m a 0)
unfolding reasoned mem
reason_at n [] m a h = refl
reason_at n (s ∷ l) m a h =
    reason_at n l _ a (rw length-set h) ∙ go (ℕ_discrete a s.at) (mem a (addresses l))
  where
    go : Dec (a ≡ s.at) → (c : Bool)
        → cond c n (get_or (set m s.at n) a 0)
        ≡ cond (eqb a s.at || c) n (get_or m a 0)
    go (yes e) true = rw (eq-eqb a s.at e)
    go (yes e) false =
        let k : s.at < length m = omega arith in
        rw (eq-eqb a s.at e, e) (get_or-set_same m s.at n 0 k)
    go (no e) true = rw (ne_eqb a s.at e)
    go (no e) false = rw (ne_eqb a s.at e) (get_or-set_other m s.at a n 0 e)

-- the first of two reasons is none where neither is one
pub or_none : (a b : ℕ) → or_else a b ≡ 0 → (a ≡ 0) × (b ≡ 0)
or_none zero b e = (refl, e)
or_none (suc a) b e = absurd (omega arith)

pub or-first : (a b : ℕ) → (a ≡ 0 → ⊥) → or_else a b ≡ a
or-first zero b h = absurd (h refl)
or-first (suc a) b h = refl

or_assoc : (a b c : ℕ) → or_else (or_else a b) c ≡ or_else a (or_else b c)
or_assoc zero b c = refl
or_assoc (suc a) b c = refl

-- of two lists, the second is asked where the first has none
pub first_reason-append : (m l k : List ℕ) → first_reason m (l ++ k) ≡ or_else (first_reason m l) (first_reason m k)
unfolding first_reason
first_reason-append m [] k = refl
first_reason-append m (a ∷ l) k =
    rw (first_reason-append m l k) (sym (or_assoc (get_or m a 0) (first_reason m l) (first_reason m k)))

-- "It answers none exactly when no such address has a reason."
pub none_has : (m l : List ℕ) → first_reason m l ≡ 0 → (a : ℕ) → mem a l ≡ true → get_or m a 0 ≡ 0
unfolding first_reason mem
none_has m [] e a h = absurd (true≢false (sym h))
none_has m (b ∷ l) e a h = go (eqb a b) refl h (none_has m l (or_none (get_or m b 0) (first_reason m l) e).1 a)
  where
    go : (c : Bool) → eqb a b ≡ c → (c || mem a l) ≡ true → (mem a l ≡ true → get_or m a 0 ≡ 0) → get_or m a 0 ≡ 0
    go true q h' ih = rw (eqb-true a b q) (or_none (get_or m b 0) (first_reason m l) e).0
    go false q h' ih = ih h'

pub has_none : (m l : List ℕ) → ((a : ℕ) → mem a l ≡ true → get_or m a 0 ≡ 0) → first_reason m l ≡ 0
unfolding first_reason mem
has_none m [] f = refl
has_none m (b ∷ l) f =
    rw (f b (rw (eq-eqb b b refl)), has_none m l (λ a h. f a (more (eqb a b) h)))
  where
    more : {d : Bool} (c : Bool) → d ≡ true → (c || d) ≡ true
    more true h = refl
    more false h = h

-- "The question gives the reason at the first address .. that has one": the address stands after others that have none.
pub record FirstAt (m l : List ℕ) (a : ℕ) : Type 0 where
  pub before : List ℕ
  pub after : List ℕ
  pub list_is : l ≡ before ++ (a ∷ after)
  pub none_before : (b : ℕ) → mem b before ≡ true → get_or m b 0 ≡ 0
  pub has_one : get_or m a 0 ≡ 0 → ⊥

pub first_is : (m l : List ℕ) (a : ℕ) → FirstAt m l a → first_reason m l ≡ get_or m a 0
unfolding first_reason
first_is m l a f =
    rw (f.list_is, first_reason-append m f.before (a ∷ f.after), has_none m f.before f.none_before)
    (or-first (get_or m a 0) _ f.has_one)

-- where a reason is given, there is such an address
pub first_at : (m l : List ℕ) → (first_reason m l ≡ 0 → ⊥) → (a : ℕ) × FirstAt m l a
unfolding first_reason mem
first_at m [] h = absurd (h refl)
first_at m (b ∷ l) h = go (ℕ_discrete (get_or m b 0) 0) (first_at m l)
  where
    go : Dec (get_or m b 0 ≡ 0) → ((first_reason m l ≡ 0 → ⊥) → (a : ℕ) × FirstAt m l a) → (a : ℕ) × FirstAt m (b ∷ l) a
    go (no e) ih =
        (b, record { before = []; after = l; list_is = refl; none_before = λ c q. absurd (true≢false (sym q)); has_one = e })
    go (yes e) ih =
        let rest = ih (λ z. h (rw (e, z))) in
        let f = rest.1 in (
          rest.0,
          record {
            before = b ∷ f.before;
            after = f.after;
            list_is = ap (λ k. b ∷ k) f.list_is;
            none_before = λ c q. here c (eqb c b) refl q (f.none_before c);
            has_one = f.has_one;
          },
        )
      where
        here : {k : Bool} (c : ℕ) (d : Bool) → eqb c b ≡ d → (d || k) ≡ true → (k ≡ true → get_or m c 0 ≡ 0) → get_or m c 0 ≡ 0
        here c true q h' ih = rw (eqb-true c b q) e
        here c false q h' ih = ih h'

-- The question on a tile and a mode: its list is the reach, then the palette's order.
module _ (t : Tile) (mode : ℕ) (reasons : List ℕ) where
  abbrev pub asked : List ℕ
  asked = reach t mode ++ palette_order t mode

  pub rejection_none : rejection t mode reasons ≡ 0 → (a : ℕ) → mem a asked ≡ true → get_or reasons a 0 ≡ 0
  unfolding rejection
  rejection_none = none_has reasons asked

  pub none_rejection : ((a : ℕ) → mem a asked ≡ true → get_or reasons a 0 ≡ 0) → rejection t mode reasons ≡ 0
  unfolding rejection
  none_rejection = has_none reasons asked

  pub rejection_is : (a : ℕ) → FirstAt reasons asked a → rejection t mode reasons ≡ get_or reasons a 0
  unfolding rejection
  rejection_is = first_is reasons asked

  pub rejection_at : (rejection t mode reasons ≡ 0 → ⊥) → (a : ℕ) × FirstAt reasons asked a
  unfolding rejection
  rejection_at = first_at reasons asked
