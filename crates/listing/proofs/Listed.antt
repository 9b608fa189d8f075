-- An input's text from the texts of its whole records, alone or with a torn tail's line after them; and what a caller of `list`
-- knows that lent a part of a buffer.
use mathlib.Core.Path.{◌≡◌, refl, ap, sym}
use mathlib.Core.List.{List, [], ◌∷◌, append-nil, ◌++◌}
use Prim.Native.Nat.{ℕ, zero, suc, ◌+◌, ◌*◌, ◌/◌, ◌%◌, ◌≤◌}
use native.Mathlib.Omega.{arith}
use native.Mathlib.Nat.{add-mul}
use lib.ListN.{length, take, drop, length-take, length-drop}
use lib.Seq.{drop-drop}
use borrow.Author.Tests.{ne_eqb}
use Rattle.std.specs.Prelude.{Result, Ok, IsOk}
use Rattle.std.specs.Simd.{first_chunks}
use Rattle.rules.specs.Base.{tab, tab_from, concat, record_of, over}
use Rattle.rules.specs.Lister.{record_size, record_at, line_room, torn_line, line_text, listing_to, listing, list_call}
use Rattle.rules.proofs.Tables.{tab_none, tab-same, tab-cut}
use Rattle.rdp.specs.View.{text_answered}
use Rattle.rdp.specs.declared.refusal.Refusal.{Refusal}
use Rattle.listing.specs.View.{record_text, record_texts}
use Rattle.listing.proofs.Pieces.{texts_of}
use Rattle.decimal.proofs.Texts.{text_ok, text-put}
use Rattle.decimal.proofs.Writes.{Wrote, wrote_more, lent, back, over_lent, over_within}

one : {A : Type 0} (f : ℕ → A) → tab 1 f ≡ f 0 ∷ []
unfolding tab tab_from
one f = refl

-- an input's whole records, as arrays
chunks : (size n : ℕ) (l : List ℕ) → first_chunks size n l ≡ tab n (record_of size l)
chunks size zero l = sym (tab_none (record_of size l))
chunks size (suc n) l =
    let more : suc n ≡ 1 + n = omega arith in
    let none : 0 * size ≡ 0 = omega arith in
    let rest = tab-same n (record_of size (drop size l)) (λ j. record_of size l (1 + j)) (λ j h. next j) in
    rw (chunks size n (drop size l), more, tab-cut 1 n (record_of size l), rest, one (record_of size l), none)
  where
    next : (j : ℕ) → record_of size (drop size l) j ≡ record_of size l (1 + j)
    next j = let e : size + j * size ≡ (1 + j) * size = omega (arith, add-mul 1 j size) in rw (drop-drop, e)

module _ (input out : List ℕ) (at : ℕ) (xs : List ℕ)
    (records : Wrote (record_texts (first_chunks record_size (length input / record_size) input)) out at xs) where
  own : record_texts (first_chunks record_size (length input / record_size) input)
      ≡ concat (tab (length input / record_size) (λ i. record_text (record_at input i)))
  own =
      let n : ℕ = length input / record_size in
      rw (chunks record_size n input, texts_of input n)

  pub whole_text : length input % record_size ≡ 0 → Wrote (listing input) out at xs
  unfolding listing_to
  whole_text e = rw (e, append-nil, ← own) records

  pub torn_text : (ys : List ℕ) (end : ℕ) → (length input % record_size ≡ 0 → ⊥) → end ≡ at + length (line_text torn_line)
      → ys ≡ over (take at xs ++ line_text torn_line) xs → Wrote (listing input) out end ys
  unfolding listing_to
  torn_text ys end e n h = rw (ne_eqb _ _ e, ← own) (wrote_more _ out at xs (line_text torn_line) ys end records n h)

-- The part of a buffer from `at` on was lent and is back as ys: an input's text stands there and ends at `end`, in the buffer.
pub record Listed (input buffer : List ℕ) (at end : ℕ) (ys : List ℕ) : Type 0 where
  pub ends : end ≡ at + length (listing input)
  pub within : end ≤ length buffer
  pub is : back buffer at ys ≡ over (take at buffer ++ listing input) buffer

module _ (input buffer : List ℕ) (at : ℕ) (r : Result ℕ Refusal) (ys : List ℕ)
    (room : at + line_room * (length input / record_size + 1) ≤ length buffer)
    (answer : text_answered r (ys ∷ []) ≡ list_call input (lent buffer at)) where
  enough : line_room * (length input / record_size + 1) ≤ length (lent buffer at)
  enough = simp (length-take, length-drop) (omega arith)

  -- where the part has room, `list` is not refused: a caller unwraps its end
  pub listed_ok : IsOk r
  unfolding list_call
  listed_ok = text_ok _ (lent buffer at) _ _ r ys enough answer

  -- and this is what it leaves there
  pub listed : (end : ℕ) → r ≡ Ok end → length ys ≡ length (lent buffer at) → Listed input buffer at (at + end) ys
  unfolding list_call
  listed end is same =
      let p = text-put _ (lent buffer at) _ _ enough answer is in
      let l : length (listing input) ≤ length (lent buffer at) = over_within _ _ ys p.1 same in
      record {
        ends = ap (λ n. at + n) p.0;
        within = omega (arith, p.0, simp (length-take, length-drop) at l);
        is = over_lent (listing input) buffer ys at (omega arith) p.1;
      }
