-- An input may be listed piece by piece, where every piece but the last ends with a whole record.
use mathlib.Core.Path.{◌≡◌, refl}
use mathlib.Core.List.{List, [], ◌∷◌, ◌++◌, map, map-append, append_assoc, append-nil}
use Prim.Native.Nat.{ℕ, zero, suc, ◌+◌, ◌*◌, ◌/◌, ◌%◌}
use native.Mathlib.Omega.{arith}
use native.Mathlib.Numerals.{add-one}
use lib.ListN.{length, length-append}
use Rattle.rules.specs.Base.{tab, concat}
use Rattle.rules.specs.Lister.{record_size, record_at, listing_to, listing}
use Rattle.rules.proofs.Records.{records_append}
use Rattle.rules.proofs.Tables.{tab_none, tab-more, concat-append}
use Rattle.listing.specs.View.{record_text}

-- a table of texts is the texts of a table
pub texts_of : (input : List ℕ) (n : ℕ) → tab n (λ i. record_text (record_at input i)) ≡ map record_text (tab n (record_at input))
texts_of input zero = rw (tab_none (λ i. record_text (record_at input i)), tab_none (record_at input))
texts_of input (suc n) =
    let text = λ (i : ℕ). record_text (record_at input i) in
    rw (← add-one, tab-more n text, tab-more n (record_at input), texts_of input n, map-append)

module _ (a b : List ℕ) (whole : length a % record_size ≡ 0) where
  abbrev count : ℕ
  count = length a / record_size

  texts : (m : ℕ) → concat (tab (count + m) (λ i. record_text (record_at (a ++ b) i)))
      ≡ concat (tab count (λ i. record_text (record_at a i))) ++ concat (tab m (λ i. record_text (record_at b i)))
  texts m =
      let e : length a ≡ count * record_size = omega arith in
      rw (
        texts_of (a ++ b) (count + m),
        records_append record_size count a b e m,
        map-append,
        concat-append,
        texts_of a count,
        texts_of b
            m,
      )

  -- the text of a piece of whole records and of what follows it
  listing-cut : listing (a ++ b) ≡ listing a ++ listing b
  unfolding listing_to
  listing-cut =
      let all : length (a ++ b) / record_size ≡ count + length b / record_size = rw length-append (omega arith) in
      let rest : length (a ++ b) % record_size ≡ length b % record_size = rw length-append (omega arith) in
      rw (all, rest, whole, texts (length b / record_size), append-nil, append_assoc)

-- every piece of a list ends with a whole record
unfoldable pub Whole : List (List ℕ) → Type 0
Whole [] = Unit {0}
Whole (p ∷ l) = (length p % record_size ≡ 0) × Whole l

-- The pieces' texts one after the other are the whole input's text. The contract of `list` speaks of one call; this carries it to
-- the lister, which calls `list` on sixteen records at a time, and last on what is left. docs/PROMISES.md names it.
pub listing_pieces : (pieces : List (List ℕ)) (last : List ℕ) → Whole pieces
    → listing (concat pieces ++ last) ≡ concat (map listing pieces) ++ listing last
unfolding concat Whole
listing_pieces [] last h = refl
listing_pieces (p ∷ l) last h =
    let ih = listing_pieces l last h.1 in
    rw (append_assoc p (concat l) last, listing-cut p (concat l ++ last) h.0, ih, append_assoc)
