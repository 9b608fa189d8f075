-- What is gathered of a file's header says what the header does.
use mathlib.Core.Path.{◌≡◌, refl, ap, sym, subst, ◌∙◌}
use mathlib.Core.Bool.{Bool, true, false, cond, not, ◌||◌}
use mathlib.Core.List.{List, [], ◌∷◌}
use Prim.Native.Nat.{ℕ, min, ◌+◌}
use native.Mathlib.Omega.{arith}
use lib.Dec.{ltb}
use lib.ListN.{length, take, drop}
use Rattle.std.specs.Prelude.{Option, Some, None, is_none}
use Rattle.rules.specs.Base.{any, empty, same}
use Rattle.rules.specs.Pam.{Header as RuleHeader, text, lines, is_end, unknown_line, fields, lines_size, values, once, stated}
use Rattle.rules.specs.Pam.{header_of, pam_head}
use Rattle.pam.specs.Line.{most, line_of}
use Rattle.pam.specs.Gather.{no_lines, noted, whole, then, read_from, header_by, is_rgb_alpha}
use Rattle.pam.specs.declared.line.Tuple.{Tuple}
use Rattle.pam.specs.declared.header.Field.TheVariants.{Unstated}
use Rattle.pam.specs.declared.header.Stated.{Stated}
use Rattle.pam.specs.declared.header.Header.{Header}
use Rattle.pam.proofs.Caps.{above-capped}
use Rattle.pam.proofs.Gathers.{folded, of_line, by_lines, any_folded, number_step, number-says, tuple_step, tuple_says}
use Rattle.pam.proofs.Keys.{noted_is}

abbrev note_step : Stated → List ℕ → Stated
note_step s l = noted s (line_of l)

abbrev unknown_step : Bool → List ℕ → Bool
unknown_step b l = b || unknown_line l

abbrev untyped_step : Bool → List ℕ → Bool
untyped_step b v = b || empty v

-- the lines, field by field
by_fields : (ls : List (List ℕ)) (s : Stated) → folded note_step s ls
    ≡ record {
      width = folded (of_line "WIDTH" number_step) s.width ls;
      height = folded (of_line "HEIGHT" number_step) s.height ls;
      depth = folded (of_line "DEPTH" number_step) s.depth ls;
      maxval = folded (of_line "MAXVAL" number_step) s.maxval ls;
      tuple = folded (of_line "TUPLTYPE" tuple_step) s.tuple ls;
      unknown = folded unknown_step s.unknown ls;
      untyped = folded (of_line "TUPLTYPE" untyped_step) s.untyped ls;
    }
unfolding folded
by_fields [] s = refl
by_fields (l ∷ ls) s = ap (λ (t : Stated). folded note_step t ls) (noted_is s l) ∙ by_fields ls _

-- what is gathered of these lines, field by field and value by value
abbrev stated_by : List (List ℕ) → Stated
stated_by fs =
    record {
      width = folded number_step Unstated (values "WIDTH" fs);
      height = folded number_step Unstated (values "HEIGHT" fs);
      depth = folded number_step Unstated (values "DEPTH" fs);
      maxval = folded number_step Unstated (values "MAXVAL" fs);
      tuple = folded tuple_step None (values "TUPLTYPE" fs);
      unknown = any unknown_line fs;
      untyped = any empty (values "TUPLTYPE" fs);
    }

by_values : (fs : List (List ℕ)) → folded note_step no_lines fs ≡ stated_by fs
by_values fs =
    by_fields fs no_lines
    ∙ (λ i. record {
      width = by_lines "WIDTH" number_step Unstated fs i;
      height = by_lines "HEIGHT" number_step Unstated fs i;
      depth = by_lines "DEPTH" number_step Unstated fs i;
      maxval = by_lines "MAXVAL" number_step Unstated fs i;
      tuple = by_lines "TUPLTYPE" tuple_step None fs i;
      unknown = any_folded unknown_line false fs i;
      untyped = (by_lines "TUPLTYPE" untyped_step false fs ∙ any_folded empty false (values "TUPLTYPE" fs)) i;
    })

-- the lines up to the ENDHDR line, and how many bytes they take
read_is : (at : ℕ) (s : Stated) (ls : List (List ℕ))
    → read_from at s ls ≡ cond (any is_end ls) (whole (at + lines_size ls) (folded note_step s (fields ls))) None
unfolding read_from folded fields lines_size any
read_is at s [] = refl
read_is at s (l ∷ ls) = go (is_end l) (read_is (at + length l + 1) (note_step s l) ls)
  where
    go : (t : Bool)
        → read_from (at + length l + 1) (note_step s l) ls
        ≡ cond (any is_end ls) (whole (at + length l + 1 + lines_size ls) (folded note_step (note_step s l) (fields ls))) None
        → ◌≡◌ {A = Option Header}
        (elim t [ true ↦ whole (at + length l + 1) s | false ↦ read_from (at + length l + 1) (note_step s l) ls ])
        (cond (t || any is_end ls)
        (whole (at + elim t [ true ↦ length l + 1 | false ↦ length l + 1 + lines_size ls ])
        (folded note_step s (elim t [ true ↦ [] | false ↦ l ∷ fields ls ])))
        None)
    go true ih = let sum : at + length l + 1 ≡ at + (length l + 1) = omega arith in ap (λ n. whole n s) sum
    go false ih =
        let sum : at + length l + 1 + lines_size ls ≡ at + (length l + 1 + lines_size ls) = omega arith in
        ih ∙ ap (λ n. cond (any is_end ls) (whole n (folded note_step (note_step s l) (fields ls))) None) sum

-- a header of these lines that does not break the description
abbrev gathered : ℕ → List (List ℕ) → Header
gathered size fs =
    record {
      width = min (stated (values "WIDTH" fs)) most;
      height = min (stated (values "HEIGHT" fs)) most;
      depth = min (stated (values "DEPTH" fs)) most;
      maxval = min (stated (values "MAXVAL" fs)) most;
      tuple = folded tuple_step None (values "TUPLTYPE" fs);
      size = size;
    }

-- Whether it breaks it, by what the fields say.
module _ (t : Option Tuple) (size : ℕ) where
  abbrev whole_of : Bool → Option ℕ → Option ℕ → Option ℕ → Option ℕ → Bool → Option Header
  whole_of u w h d m e =
      cond u None
      (then w (λ w'.
      then h (λ h'.
      then d (λ d'.
      then m (λ m'.
      cond (ltb 65535 m' || e) None
      (Some (record { width = w'; height = h'; depth = d'; maxval = m'; tuple = t; size = size })))))))

  abbrev capped : Bool → ℕ → Option ℕ
  capped b n = cond b (Some (min n most)) None

  whole_by : (u w h d m e : Bool) (a b c n : ℕ) → whole_of u (capped w a) (capped h b) (capped d c) (capped m n) e
      ≡ cond (u || not w || not h || not d || not m || ltb 65535 n || e) None
      (Some (record { width = min a most; height = min b most; depth = min c most; maxval = min n most; tuple = t; size = size }))
  whole_by true w h d m e a b c n = refl
  whole_by false false h d m e a b c n = refl
  whole_by false true false d m e a b c n = refl
  whole_by false true true false m e a b c n = refl
  whole_by false true true true false e a b c n = refl
  whole_by false true true true true e a b c n = rw (above-capped 65535 n (omega arith))

whole_is : (size : ℕ) (fs : List (List ℕ)) → whole size (stated_by fs)
    ≡ cond
    (any unknown_line fs
    || not (once (values "WIDTH" fs))
    || not (once (values "HEIGHT" fs))
    || not (once (values "DEPTH" fs))
    || not (once (values "MAXVAL" fs))
    || ltb 65535 (stated (values "MAXVAL" fs))
    || any empty (values "TUPLTYPE" fs))
    None
    (Some (gathered size fs))
whole_is size fs =
    let ws = values "WIDTH" fs in
    let hs = values "HEIGHT" fs in
    let ds = values "DEPTH" fs in
    let ms = values "MAXVAL" fs in
    let ts = values "TUPLTYPE" fs in
    let tuple = folded tuple_step None ts in
    let u = any unknown_line fs in
    let e = any empty ts in
    (λ i. whole_of tuple size u (number-says ws i) (number-says hs i) (number-says ds i) (number-says ms i) e)
    ∙ whole_by tuple size u (once ws) (once hs) (once ds) (once ms) e (stated ws) (stated hs) (stated ds) (stated ms)

-- What a header states, where it is not broken.
pub record States (x : Header) (h : RuleHeader) : Type 0 where
  pub width : x.width ≡ min h.width most
  pub height : x.height ≡ min h.height most
  pub depth : x.depth ≡ min h.depth most
  pub maxval : x.maxval ≡ min h.maxval most
  pub tuple : is_rgb_alpha x.tuple ≡ same h.tuple (text "RGB_ALPHA")
  pub size : x.size ≡ h.size

-- What is gathered of a file, if anything is, and what its header says.
pub record Seen (o : Option Header) (h : RuleHeader) : Type 0 where
  pub broken_is : is_none o ≡ h.broken
  pub states : (x : Header) → o ≡ Some x → States x h

module _ (file : List ℕ) where
  abbrev ls : List (List ℕ)
  ls = lines (drop 3 file)

  abbrev gathered_of : Header
  gathered_of = gathered (3 + lines_size ls) (fields ls)

  gathered_states : States gathered_of (pam_head file)
  unfolding pam_head header_of
  gathered_states =
      record {
        width = refl;
        height = refl;
        depth = refl;
        maxval = refl;
        tuple = tuple_says (values "TUPLTYPE" (fields ls));
        size = refl;
      }

  header_is : header_by file ≡ cond (pam_head file).broken None (Some gathered_of)
  unfolding pam_head header_of
  header_is =
      go (same (take 3 file) (text "P7\n")) (any is_end ls) (read_is 3 no_lines ls ∙ ap (λ s. cond (any is_end ls) (whole
      (3 + lines_size ls) s) None) (by_values (fields ls)))
    where
      go : (m e : Bool) → read_from 3 no_lines ls ≡ cond e (whole (3 + lines_size ls) (stated_by (fields ls))) None
          → cond m (read_from 3 no_lines ls) None
          ≡ cond
          (not m
          || not e
          || any unknown_line (fields ls)
          || not (once (values "WIDTH" (fields ls)))
          || not (once (values "HEIGHT" (fields ls)))
          || not (once (values "DEPTH" (fields ls)))
          || not (once (values "MAXVAL" (fields ls)))
          || ltb 65535 (stated (values "MAXVAL" (fields ls)))
          || any empty (values "TUPLTYPE" (fields ls)))
          None
          (Some gathered_of)
      go false e h = refl
      go true false h = h
      go true true h = h ∙ whole_is (3 + lines_size ls) (fields ls)

  -- a header that was not gathered is broken, and one that was is not
  pub broken_none : header_by file ≡ None → (pam_head file).broken ≡ true
  broken_none n = go (pam_head file).broken refl
    where
      go : (b : Bool) → (pam_head file).broken ≡ b → (pam_head file).broken ≡ true
      go true e = e
      go false e = let s : None ≡ Some gathered_of = sym n ∙ header_is ∙ rw e in cc

  pub whole_some : (x : Header) → header_by file ≡ Some x → ((pam_head file).broken ≡ false) × States x (pam_head file)
  whole_some x n = go (pam_head file).broken refl
    where
      go : (b : Bool) → (pam_head file).broken ≡ b → ((pam_head file).broken ≡ false) × States x (pam_head file)
      go true e = let s : Some x ≡ None = sym n ∙ header_is ∙ rw e in cc
      go false e =
          let s : Some x ≡ Some gathered_of = sym n ∙ header_is ∙ rw e in
          let k : x ≡ gathered_of = cc in
          (e, subst (λ (y : Header). States y (pam_head file)) (sym k) gathered_states)

-- What is gathered says what the header does: nothing where it breaks the description, and else what it states.
pub seen : (file : List ℕ) → Seen (header_by file) (pam_head file)
seen file =
    record {
      broken_is = ap is_none (header_is file) ∙ by_cases (pam_head file).broken;
      states = λ x e. (whole_some file x e).1;
    }
  where
    by_cases : (b : Bool) → is_none (cond b None (Some (gathered_of file))) ≡ b
    by_cases true = refl
    by_cases false = refl
