-- A line's keyword is one of the keywords exactly where the line says it.
use mathlib.Core.Path.{◌≡◌, refl, sym, subst, ◌∙◌}
use mathlib.Core.Bool.{Bool, true, false, cond, not, false≢true, ◌||◌}
use mathlib.Core.List.{List, [], ◌∷◌}
use Prim.Native.Nat.{ℕ}
use borrow.Author.Tests.{eqb-true}
use Rattle.std.specs.Prelude.{Some, None}
use Rattle.rules.specs.Base.{empty, same}
use Rattle.rules.specs.Pam.{text, front, behind, keyword, value, comment, is_end}
use Rattle.pam.specs.Line.{keyword_of, tuple_of, value_of, line_of}
use Rattle.pam.specs.Gather.{absent, noted}
use Rattle.pam.specs.declared.line.Keyword.{Keyword}
use Rattle.pam.specs.declared.line.Keyword.TheVariants.{Nothing, Width, Height, Depth, Maxval, Tupltype, Endhdr, Other}
use Rattle.pam.specs.declared.line.Tuple.{Tuple}
use Rattle.pam.specs.declared.line.Tuple.TheVariants.{RgbAlpha, Other as Another}
use Rattle.pam.specs.declared.header.Stated.{Stated}
use Rattle.pam.proofs.Texts.{same_is}
use denote.Enum.Bare.{sameb}
use Rattle.pam.specs.contracts.line.Keyword.{the_type}
use Rattle.pam.proofs.Gathers.{or_false, number_step, tuple_step}

or_true : (a : Bool) → (a || true) ≡ true
or_true true = refl
or_true false = refl

-- a word that is none of the keywords
record Strange (k : List ℕ) : Type 0 where
  some : empty k ≡ false
  width : same k (text "WIDTH") ≡ false
  height : same k (text "HEIGHT") ≡ false
  depth : same k (text "DEPTH") ≡ false
  maxval : same k (text "MAXVAL") ≡ false
  tupltype : same k (text "TUPLTYPE") ≡ false
  endhdr : same k (text "ENDHDR") ≡ false

-- What holds of no token, of each keyword and of every other word holds of every token.
module _ (P : List ℕ → Type 0) (nothing : P []) (width : P (text "WIDTH")) (height : P (text "HEIGHT")) (depth : P (text "DEPTH"))
    (maxval : P (text "MAXVAL")) (tupltype : P (text "TUPLTYPE")) (endhdr : P (text "ENDHDR")) (other : (k : List ℕ) → Strange k → P k)
  where
    -- where a word is not this one, the rest decides
    or_else : (k t : List ℕ) → P t → (same k t ≡ false → P k) → P k
    or_else k t p rest = go (same k t) refl
      where
        go : (b : Bool) → same k t ≡ b → P k
        go true e = subst P (sym (same_is k t e)) p
        go false e = rest e

    by_word : (k : List ℕ) → P k
    by_word [] = nothing
    by_word (b ∷ k) =
        or_else (b ∷ k) (text "WIDTH") width (λ w.
        or_else (b ∷ k) (text "HEIGHT") height (λ h.
        or_else (b ∷ k) (text "DEPTH") depth (λ d.
        or_else (b ∷ k) (text "MAXVAL") maxval (λ m.
        or_else (b ∷ k) (text "TUPLTYPE") tupltype (λ t.
        or_else (b ∷ k) (text "ENDHDR") endhdr (λ e.
        other (b ∷ k) (record { some = refl; width = w; height = h; depth = d; maxval = m; tupltype = t; endhdr = e })))))))

-- the ENDHDR line
abbrev pub is_endhdr : Keyword → Bool
is_endhdr Nothing = false
is_endhdr Width = false
is_endhdr Height = false
is_endhdr Depth = false
is_endhdr Maxval = false
is_endhdr Tupltype = false
is_endhdr Endhdr = true
is_endhdr Other = false

-- what `==` answers of a keyword
pub was_end : (k : Keyword) {b : Bool} → b ≡ sameb the_type k Endhdr → is_endhdr k ≡ b
was_end k e = go k ∙ sym e
  where
    go : (m : Keyword) → is_endhdr m ≡ sameb the_type m Endhdr
    go Nothing = refl
    go Width = refl
    go Height = refl
    go Depth = refl
    go Maxval = refl
    go Tupltype = refl
    go Endhdr = refl
    go Other = refl

end_by : (k : List ℕ) → is_endhdr (keyword_of k) ≡ same k (text "ENDHDR")
unfolding text same
end_by = by_word (λ k. is_endhdr (keyword_of k) ≡ same k (text "ENDHDR")) refl refl refl refl refl refl refl
    (λ k s. rw (s.some, s.width, s.height, s.depth, s.maxval, s.tupltype, s.endhdr))

-- a comment says nothing
pub end_is : (l : List ℕ) → is_endhdr (line_of l).keyword ≡ is_end l
unfolding text same front behind
end_is l = go l (comment l) refl
  where
    go : (m : List ℕ) (t : Bool) → comment m ≡ t → is_endhdr (line_of m).keyword ≡ is_end m
    go m false e = rw e (end_by (keyword m))
    go [] true e = absurd (false≢true e)
    go (b ∷ m) true e = let k : b ≡ 35 = eqb-true b 35 e in rw k

-- what is stated after a line with this token and value, by a yes or no for each keyword
abbrev pub by_keys : Stated → Bool → List ℕ → List ℕ → Stated
by_keys s c k v =
    record {
      width = cond (same k (text "WIDTH")) (number_step s.width v) s.width;
      height = cond (same k (text "HEIGHT")) (number_step s.height v) s.height;
      depth = cond (same k (text "DEPTH")) (number_step s.depth v) s.depth;
      maxval = cond (same k (text "MAXVAL")) (number_step s.maxval v) s.maxval;
      tuple = cond (same k (text "TUPLTYPE")) (tuple_step s.tuple v) s.tuple;
      unknown =
          s.unknown
          || not
          (c
          || empty k
          || same k (text "WIDTH")
          || same k (text "HEIGHT")
          || same k (text "DEPTH")
          || same k (text "MAXVAL")
          || same k (text "TUPLTYPE"));
      untyped = cond (same k (text "TUPLTYPE")) (s.untyped || empty v) s.untyped;
    }

no_value : (v : List ℕ) → absent (tuple_of v) ≡ empty v
no_value v = go (empty v) (same v (text "RGB_ALPHA"))
  where
    go : (e t : Bool) → absent {A = Tuple} (cond e None (cond t (Some RgbAlpha) (Some Another))) ≡ e
    go true t = refl
    go false true = refl
    go false false = refl

module _ (s : Stated) (v : List ℕ) where
  abbrev Noted : List ℕ → Type 0
  Noted k = noted s (record { keyword = keyword_of k; value = value_of v }) ≡ by_keys s false k v

  -- a line that says something that is known, and one that does not
  known : (r : Stated) → r ≡ record r { unknown = r.unknown || false }
  known r = λ i. record r { unknown = sym (or_false r.unknown) i }

  strange : record s { unknown = true } ≡ record s { unknown = s.unknown || true }
  strange = λ i. record s { unknown = sym (or_true s.unknown) i }

  typed : Noted (text "TUPLTYPE")
  unfolding text same
  typed =
      λ i. record s {
        tuple = tuple_step s.tuple v;
        unknown = sym (or_false s.unknown) i;
        untyped = s.untyped || no_value v i;
      }

  other_word : (k : List ℕ) → Strange k → Noted k
  other_word k h = rw (h.some, h.width, h.height, h.depth, h.maxval, h.tupltype, h.endhdr) strange

  noted_by : (k : List ℕ) → Noted k
  unfolding text same
  noted_by =
      by_word Noted
      (known s)
      (known (record s { width = number_step s.width v }))
      (known (record s { height = number_step s.height v }))
      (known (record s { depth = number_step s.depth v }))
      (known (record s { maxval = number_step s.maxval v }))
      typed
      strange
      other_word

pub noted_is : (s : Stated) (l : List ℕ) → noted s (line_of l) ≡ by_keys s (comment l) (keyword l) (value l)
unfolding text same front behind
noted_is s l = go l (comment l) refl
  where
    go : (m : List ℕ) (t : Bool) → comment m ≡ t → noted s (line_of m) ≡ by_keys s (comment m) (keyword m) (value m)
    go m false e = rw e (noted_by s (value m) (keyword m))
    go [] true e = absurd (false≢true e)
    go (b ∷ m) true e = let k : b ≡ 35 = eqb-true b 35 e in rw k (known s (value (35 ∷ m)) s)
