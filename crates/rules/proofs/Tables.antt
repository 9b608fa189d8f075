-- Laws of a table's length, entries and last entry, of joined lists, and of membership.
use mathlib.Core.Path.{◌≡◌, refl, ap, sym, ◌∙◌}
use mathlib.Core.Bool.{Bool, true, false, ◌||◌}
use mathlib.Core.List.{List, [], ◌∷◌, ◌++◌, append_assoc, append-nil}
use Prim.Native.Nat.{ℕ, zero, suc, ◌+◌, ◌<◌}
use native.Mathlib.Omega.{arith}
use native.Mathlib.Nat.{add-zero, add-suc, suc-add, zero-add, le_of_suc-le-suc}
use native.Mathlib.Numerals.{add-one}
use lib.ListN.{length, get_or, take}
use lib.Seq.{take_at}
use lib.Dec.{eqb}
use borrow.Author.Tests.{eq-eqb}
use Rattle.rules.specs.Base.{tab, tab_from, concat, mem}

module _ {A : Type 0} where
  length_from : (i n : ℕ) (f : ℕ → A) → length (tab_from i n f) ≡ n
  unfolding tab_from
  length_from i zero f = refl
  length_from i (suc n) f = ap suc (length_from (suc i) n f)

  pub length-tab : (n : ℕ) (f : ℕ → A) → length (tab n f) ≡ n
  unfolding tab
  length-tab n f = length_from 0 n f

  get_or_from : (i n : ℕ) (f : ℕ → A) (k : ℕ) (d : A) → k < n → get_or (tab_from i n f) k d ≡ f (i + k)
  unfolding tab_from
  get_or_from i zero f k d h = absurd (omega arith)
  get_or_from i (suc n) f zero d h = ap f (sym (add-zero i))
  get_or_from i (suc n) f (suc k) d h =
      get_or_from (suc i) n f k d (le_of_suc-le-suc h) ∙ ap f (suc-add i k ∙ sym (add-suc i k))

  pub get_or-tab : (n : ℕ) (f : ℕ → A) (k : ℕ) (d : A) → k < n → get_or (tab n f) k d ≡ f k
  unfolding tab
  get_or-tab n f k d h = get_or_from 0 n f k d h ∙ ap f (zero-add k)

  from_more : (i n : ℕ) (f : ℕ → A) → tab_from i (suc n) f ≡ tab_from i n f ++ (f (i + n) ∷ [])
  unfolding tab_from
  from_more i zero f = ap (λ k. f k ∷ []) (sym (add-zero i))
  from_more i (suc n) f =
      ap (λ l. f i ∷ l) (from_more (suc i) n f ∙ ap (λ k. tab_from (suc i) n f ++ (f k ∷ [])) (suc-add i n ∙ sym (add-suc i n)))

  -- one entry more stands at the end
  pub tab-more : (n : ℕ) (f : ℕ → A) → tab (n + 1) f ≡ tab n f ++ (f n ∷ [])
  unfolding tab
  tab-more n f = rw add-one (from_more 0 n f ∙ ap (λ k. tab_from 0 n f ++ (f k ∷ [])) (zero-add n))

  pub tab_none : (f : ℕ → A) → tab 0 f ≡ []
  unfolding tab tab_from
  tab_none f = refl

  -- two tables that agree
  pub tab-same : (n : ℕ) (f g : ℕ → A) → ((i : ℕ) → i < n → f i ≡ g i) → tab n f ≡ tab n g
  tab-same zero f g h = tab_none f ∙ sym (tab_none g)
  tab-same (suc n) f g h =
      let ih : tab n f ≡ tab n g = tab-same n f g (λ i l. h i (omega arith)) in
      rw (← add-one, tab-more n f, tab-more n g, ih, h n (omega arith))

  -- a table cut after n entries
  pub tab-cut : (n m : ℕ) (f : ℕ → A) → tab (n + m) f ≡ tab n f ++ tab m (λ j. f (n + j))
  tab-cut n zero f = rw (add-zero, tab_none (λ j. f (n + j)), append-nil)
  tab-cut n (suc m) f =
      let e : n + suc m ≡ (n + m) + 1 = omega arith in
      let s : suc m ≡ m + 1 = omega arith in
      rw (e, s, tab-more (n + m) f, tab-cut n m f, tab-more m (λ j. f (n + j)), append_assoc)

  -- the first n of them
  pub take-tab : (n m : ℕ) (f : ℕ → A) → take n (tab (n + m) f) ≡ tab n f
  take-tab n m f = rw (tab-cut n m f) (take_at (tab n f) (tab m (λ j. f (n + j))) n (length-tab n f))

module _ {A : Type 0} where
  pub concat-append : (l m : List (List A)) → concat (l ++ m) ≡ concat l ++ concat m
  unfolding concat
  concat-append [] m = refl
  concat-append (x ∷ l) m = ap (λ r. x ++ r) (concat-append l m) ∙ sym (append_assoc x (concat l) (concat m))

  -- the lists of a table, and one more
  pub concat-more : (n : ℕ) (f : ℕ → List A) → concat (tab (n + 1) f) ≡ concat (tab n f) ++ f n
  unfolding concat
  concat-more n f =
      ap concat (tab-more n f) ∙ concat-append (tab n f) (f n ∷ []) ∙ ap (λ r. concat (tab n f) ++ r) (append-nil (f n))

pub mem_head : (a : ℕ) (l : List ℕ) → mem a (a ∷ l) ≡ true
unfolding mem
mem_head a l = rw (eq-eqb a a refl)

either_true : (t : Bool) → (t || true) ≡ true
either_true true = refl
either_true false = refl

pub mem-tail : (a x : ℕ) (l : List ℕ) → mem a l ≡ true → mem a (x ∷ l) ≡ true
unfolding mem
mem-tail a x l h = rw h (either_true (eqb a x))

pub mem-append : (a : ℕ) (l m : List ℕ) → mem a (l ++ m) ≡ (mem a l || mem a m)
unfolding mem
mem-append a [] m = refl
mem-append a (x ∷ l) m = go (eqb a x) (mem-append a l m)
  where
    go : (t : Bool) → mem a (l ++ m) ≡ (mem a l || mem a m) → (t || mem a (l ++ m)) ≡ (t || mem a l || mem a m)
    go true ih = refl
    go false ih = ih
