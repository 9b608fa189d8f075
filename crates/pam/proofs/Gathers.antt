-- What is gathered of a header's lines, one field at a time: by the values that the lines state for it.
use mathlib.Core.Path.{◌≡◌, refl, ap, sym, ◌∙◌}
use mathlib.Core.Bool.{Bool, true, false, cond, false≢true, ◌&&◌, ◌||◌}
use mathlib.Core.List.{List, [], ◌∷◌, ◌++◌}
use Prim.Native.Nat.{ℕ, min}
use Prim.Native.String.{String}
use lib.Dec.{eqb}
use Rattle.std.specs.Prelude.{Option, Some, None}
use Rattle.rules.specs.Base.{any, empty, same}
use Rattle.rules.specs.Pam.{text, says, value, values, number, is_count, once, stated, joined}
use Rattle.rules.proofs.Ranges.{neither}
use Rattle.pam.specs.Line.{most, count_of, tuple_of}
use Rattle.pam.specs.Gather.{state_after, once_of, tuple_after, is_rgb_alpha}
use Rattle.pam.specs.declared.line.Tuple.{Tuple}
use Rattle.pam.specs.declared.line.Tuple.TheVariants.{RgbAlpha, Other as Another}
use Rattle.pam.specs.declared.header.Field.{Field}
use Rattle.pam.specs.declared.header.Field.TheVariants.{Unstated, Bad}
use Rattle.pam.proofs.Texts.{and_false}

-- a step for each of a list, from the first on
unfoldable pub folded : {A B : Type 0} → (A → B → A) → A → List B → A
folded f s [] = s
folded f s (x ∷ l) = folded f (f s x) l

-- a step on the values of one keyword's lines alone
abbrev pub of_line : {A : Type 0} → String → (A → List ℕ → A) → A → List ℕ → A
of_line k f s l = cond (says k l) (f s (value l)) s

-- line by line is value by value
pub by_lines : {A : Type 0} (k : String) (f : A → List ℕ → A) (s : A) (ls : List (List ℕ))
    → folded (of_line k f) s ls ≡ folded f s (values k ls)
unfolding folded values
by_lines k f s [] = refl
by_lines {A} k f s (l ∷ ls) = go (says k l) (by_lines k f (f s (value l)) ls) (by_lines k f s ls)
  where
    go : (t : Bool) → folded (of_line k f) (f s (value l)) ls ≡ folded f (f s (value l)) (values k ls)
        → folded (of_line k f) s ls ≡ folded f s (values k ls)
        → folded (of_line k f) (cond t (f s (value l)) s) ls ≡ folded f s (elim t [ true ↦ value l ∷ values k ls | false ↦ values k ls ])
    go true yes' no' = yes'
    go false yes' no' = no'

-- Whether something holds of one of them.
or_assoc : (a b c : Bool) → ((a || b) || c) ≡ (a || (b || c))
or_assoc true b c = refl
or_assoc false b c = refl

pub or_false : (a : Bool) → (a || false) ≡ a
or_false true = refl
or_false false = refl

pub any_folded : {B : Type 0} (f : B → Bool) (b : Bool) (l : List B) → folded (λ c x. c || f x) b l ≡ (b || any f l)
unfolding folded any
any_folded f b [] = sym (or_false b)
any_folded f b (x ∷ l) = any_folded f (b || f x) l ∙ or_assoc b (f x) (any f l)

-- Numbers.
abbrev pub number_step : Field → List ℕ → Field
number_step s v = state_after s (count_of v)

stays_bad : (vs : List (List ℕ)) → folded number_step Bad vs ≡ Bad
unfolding folded
stays_bad [] = refl
stays_bad (v ∷ vs) = stays_bad vs

-- "exactly once", and the number
pub number-says : (vs : List (List ℕ)) → once_of (folded number_step Unstated vs) ≡ cond (once vs) (Some (min (stated vs) most)) None
unfolding folded
number-says [] = refl
number-says (v ∷ []) = go (is_count v)
  where
    go : (t : Bool) → once_of (state_after Unstated (cond t (Some (min (number v) most)) None)) ≡ cond t (Some (min (number v) most)) None
    go true = refl
    go false = refl
number-says (v ∷ w ∷ vs) = go (count_of v)
  where
    go : (o : Option ℕ) → once_of (folded number_step (state_after (state_after Unstated o) (count_of w)) vs) ≡ None
    go None = ap once_of (stays_bad vs)
    go (Some n) = ap once_of (stays_bad vs)

-- Tuple types: the type is RGB_ALPHA exactly where it was gathered so.
abbrev pub tuple_step : Option Tuple → List ℕ → Option Tuple
tuple_step s v = tuple_after s (tuple_of v)

stays_other : (vs : List (List ℕ)) → folded tuple_step (Some Another) vs ≡ Some Another
unfolding folded
stays_other [] = refl
stays_other (v ∷ vs) = stays_other vs

two_types : (v w : List ℕ) (vs : List (List ℕ)) → folded tuple_step None (v ∷ w ∷ vs) ≡ Some Another
unfolding folded
two_types v w vs = go (tuple_of v)
  where
    go : (o : Option Tuple) → folded tuple_step (tuple_after (tuple_after None o) (tuple_of w)) vs ≡ Some Another
    go None = stays_other vs
    go (Some RgbAlpha) = stays_other vs
    go (Some Another) = stays_other vs

-- a text with a space in it is none without
no_space : (t m r : List ℕ) → any (λ b. eqb 32 b) r ≡ false → same (t ++ (32 ∷ m)) r ≡ false
unfolding any same
no_space [] m [] h = refl
no_space [] m (b ∷ r) h = rw (neither (eqb 32 b) (any (λ b. eqb 32 b) r) h).0
no_space (a ∷ t) m [] h = refl
no_space (a ∷ t) m (b ∷ r) h =
    ap (λ (x : Bool). eqb a b && x) (no_space t m r (neither (eqb 32 b) (any (λ b. eqb 32 b) r) h).1) ∙ and_false (eqb a b)

no_type : (v : List ℕ) → empty v ≡ true → same v (text "RGB_ALPHA") ≡ false
unfolding text same
no_type [] h = refl
no_type (b ∷ v) h = absurd (false≢true h)

no_32 : any (λ b. eqb 32 b) (text "RGB_ALPHA") ≡ false
unfolding text any
no_32 = refl

pub tuple_says : (vs : List (List ℕ)) → is_rgb_alpha (folded tuple_step None vs) ≡ same (joined vs) (text "RGB_ALPHA")
unfolding folded joined
tuple_says [] = sym (no_type [] refl)
tuple_says (v ∷ []) = go (empty v) refl (same v (text "RGB_ALPHA")) refl
  where
    go : (e : Bool) → empty v ≡ e → (t : Bool) → same v (text "RGB_ALPHA") ≡ t
        → is_rgb_alpha (tuple_after None (cond e None (cond t (Some RgbAlpha) (Some Another)))) ≡ t
    go true h true k = absurd (false≢true (sym (no_type v h) ∙ k))
    go true h false k = refl
    go false h true k = refl
    go false h false k = refl
tuple_says (v ∷ w ∷ vs) = ap is_rgb_alpha (two_types v w vs) ∙ sym (no_space v (joined (w ∷ vs)) (text "RGB_ALPHA") no_32)
