-- The declared line as the rules have it, which gives no field a meaning; the texts of records.
use Rattle.std.specs.Prelude.{List, [], ◌∷◌, ℕ, Result, map}
use Rattle.rules.specs.Base.{one, concat}
use Rattle.rules.specs.Refusal.{Outcome}
use Rattle.rules.specs.Lister.{record_line, line_text}
use Rattle.rdp.specs.Refused.{settled}
use Rattle.rdp.specs.declared.refusal.Refusal.{Refusal}
use Rattle.listing.specs.declared.line.Listed.{Listed}

-- a line's answer
abbrev pub line_answered : Result Listed Refusal → Outcome
line_answered r = settled (λ l. one l.lookup ∷ l.kept ∷ l.texels ∷ []) (0 ∷ 0 ∷ 0 ∷ []) r []

-- a line's four numbers, in their order
abbrev pub numbers_of : Result Listed Refusal → List ℕ
numbers_of r = (line_answered r).refusal ∷ (line_answered r).numbers

-- the text of a record, and of records one after the other
abbrev pub record_text : List ℕ → List ℕ
record_text r = line_text (record_line r)

abbrev pub record_texts : List (List ℕ) → List ℕ
record_texts l = concat (map record_text l)
