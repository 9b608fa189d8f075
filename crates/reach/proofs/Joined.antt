-- Laws of lists that a loop joins: each turn marks or searches one list more.
use mathlib.Core.Path.{◌≡◌, refl, ap, sym, ◌∙◌}
use mathlib.Core.Bool.{Bool, true, false, ◌||◌}
use mathlib.Core.List.{List, [], ◌∷◌, ◌++◌}
use Prim.Native.Nat.{ℕ, zero, suc, ◌+◌, ◌-◌, ◌<◌, ◌≤◌}
use native.Mathlib.Numerals.{add-one}
use native.Mathlib.Omega.{arith}
use Rattle.rules.specs.Base.{tab, tab_from, concat, any, marks}
use Rattle.rules.specs.Reach.{first_reason}
use Rattle.rules.proofs.Tables.{tab-same, tab-cut, concat-append, concat-more}
use Rattle.rules.proofs.Maps.{marks-append}
use Rattle.rules.proofs.Reasons.{or-first, first_reason-append}

pub marks_none : (m : List ℕ) (f : ℕ → List ℕ) → marks m (concat (tab 0 f)) ≡ m
unfolding marks concat tab tab_from
marks_none m f = refl

pub marks-more : (m : List ℕ) (f : ℕ → List ℕ) (n : ℕ) (now next : List ℕ)
    → now ≡ marks m (concat (tab n f)) → next ≡ marks now (f n) → next ≡ marks m (concat (tab (n + 1) f))
marks-more m f n now next p q = rw (concat-more, marks-append, ← p, q)

-- lists from the first on are all lists
pub from_first : {A : Type 0} (n : ℕ) (f : ℕ → List A) → concat (tab (n - 0) (λ k. f (0 + k))) ≡ concat (tab n f)
from_first n f =
    let all : n - 0 ≡ n = omega arith in
    rw all (ap concat (tab-same n (λ k. f (0 + k)) f (λ k h. ap f (omega arith))))

-- A search F of lists: in two lists it finds what it finds in the first, and where that is nothing, what it finds in the second.
pub record Search {A R : Type 0} (F : List A → R) (none : R) : Type 0 where
  pub empty : F [] ≡ none
  pub next : (l k : List A) → F l ≡ none → F (l ++ k) ≡ F k
  pub stays : (l k : List A) → (F l ≡ none → ⊥) → F (l ++ k) ≡ F l

module _ {A R : Type 0} {F : List A → R} {none : R} (s : Search F none) (f : ℕ → List A) where
  -- nothing was found before the first list, nor after one more in which there is nothing, nor in lists that have nothing
  pub none_yet : F (concat (tab 0 f)) ≡ none
  unfolding concat tab tab_from
  none_yet = s.empty

  pub none_more : (n : ℕ) → F (concat (tab n f)) ≡ none → F (f n) ≡ none → F (concat (tab (n + 1) f)) ≡ none
  none_more n h e = ap F (concat-more n f) ∙ s.next _ _ h ∙ e

  pub none_all : (n : ℕ) → ((k : ℕ) → k < n → F (f k) ≡ none) → F (concat (tab n f)) ≡ none
  none_all zero e = none_yet
  none_all (suc n) e = rw (← add-one n) (none_more n (none_all n (λ k h. e k (omega arith))) (e n (omega arith)))

  -- the same of m lists more, where nothing is in the first n
  abbrev further : ℕ → ℕ → List A
  further n m = concat (tab m (λ j. f (n + j)))

  cut : (n m : ℕ) → F (concat (tab n f)) ≡ none → F (concat (tab (n + m) f)) ≡ F (further n m)
  cut n m e = ap (λ l. F (concat l)) (tab-cut n m f) ∙ ap F (concat-append (tab n f) _) ∙ s.next _ _ e

  pub none-further : (n m : ℕ) → F (concat (tab n f)) ≡ none → F (further n m) ≡ none → F (concat (tab (n + m) f)) ≡ none
  none-further n m e h = cut n m e ∙ h

  pub found_further : (n m k : ℕ) → n + m ≤ k → F (concat (tab n f)) ≡ none → (r : R) → r ≡ F (further n m) → (r ≡ none → ⊥)
      → r ≡ F (concat (tab k f))
  found_further n m k h e r here some =
      let long : k ≡ (n + m) + (k - (n + m)) = omega arith in
      let last : F (concat (tab (n + m) f)) ≡ r = cut n m e ∙ sym here in
      sym
      (ap (λ k. F (concat (tab k f))) long
      ∙ ap (λ l. F (concat l)) (tab-cut (n + m) (k - (n + m)) f)
      ∙ ap F (concat-append (tab (n + m) f) _)
      ∙ s.stays _ _ (λ z. some (sym last ∙ z))
      ∙ last)

  -- what is found in list i, where nothing was before it, is what all of them together have
  pub first_found : (i n : ℕ) → i < n → F (concat (tab i f)) ≡ none → (r : R) → r ≡ F (f i) → (r ≡ none → ⊥) → r ≡ F (concat (tab n f))
  first_found i n h e r here some =
      found_further i 1 n (omega arith) e r (here ∙ sym (s.next _ _ e) ∙ ap F (sym (concat-more i f)) ∙ cut i 1 e) some

-- the test that something in a list passes
module _ {A : Type 0} (p : A → Bool) where
  any_append : (l m : List A) → any p (l ++ m) ≡ (any p l || any p m)
  unfolding any
  any_append [] m = refl
  any_append (x ∷ l) m = go (p x) (any_append l m)
    where
      go : (b : Bool) → any p (l ++ m) ≡ (any p l || any p m) → (b || any p (l ++ m)) ≡ (b || any p l || any p m)
      go true h = refl
      go false h = h

  pub any-more : (f : ℕ → List A) (n : ℕ) → any p (concat (tab (n + 1) f)) ≡ (any p (concat (tab n f)) || any p (f n))
  any-more f n = ap (any p) (concat-more n f) ∙ any_append (concat (tab n f)) (f n)

  pub any_search : Search (any p) false
  unfolding any
  any_search =
      record {
        empty = refl;
        next = λ l k h. any_append l k ∙ rw h;
        stays = λ l k h. any_append l k ∙ go (any p l) (any p k) h;
      }
    where
      go : (a b : Bool) → (a ≡ false → ⊥) → (a || b) ≡ a
      go true b h = refl
      go false b h = absurd (h refl)

-- the first reason of a list
pub reason_search : (m : List ℕ) → Search (first_reason m) 0
unfolding first_reason
reason_search m =
    record {
      empty = refl;
      next = λ l k h. first_reason-append m l k ∙ rw h;
      stays = λ l k h. first_reason-append m l k ∙ or-first _ _ h;
    }
