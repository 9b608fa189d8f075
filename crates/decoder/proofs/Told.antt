-- What readings tell a trail, one after the other: all of their addresses, or nothing where no trail is asked for.
use mathlib.Core.Path.{◌≡◌, refl}
use mathlib.Core.Bool.{Bool, true, false, cond}
use mathlib.Core.List.{List, [], ◌++◌}
use Prim.Native.Nat.{ℕ, ◌+◌, ◌*◌}
use lib.ListN.{length}
use Rattle.rules.specs.Reading.{Reading, trail, up_to, encoded}
use Rattle.rules.proofs.Parts.{Parts}
use Rattle.rules.proofs.Readings.{encoded-more, length-encoded}
use Rattle.decoder.specs.Rows.{told}

told_more : (o : Bool) (f : ℕ → Reading) (bank : List ℕ) (i : ℕ)
    → told o (trail (up_to (i + 1) f) bank) ≡ told o (trail (up_to i f) bank) ++ told o (trail (f i) bank)
told_more true f bank i = encoded-more f bank i
told_more false f bank i = refl

told_none : (o : Bool) (f : ℕ → Reading) (bank : List ℕ) → told o (trail (up_to 0 f) bank) ≡ []
unfolding up_to trail encoded
told_none true f bank = refl
told_none false f bank = refl

pub told-length : (o : Bool) (l : List ℕ) (g : ℕ) → length l ≡ g → length (told o l) ≡ cond o (2 * g) 0
told-length true l g e = rw (length-encoded, e)
told-length false l g e = refl

-- what they tell the trail, one after the other
pub told_parts : (o : Bool) (f : ℕ → Reading) (bank : List ℕ) (n g : ℕ) → ((i : ℕ) → length (told o (trail (f i) bank)) ≡ g)
    → Parts n (λ i. told o (trail (f i) bank)) (λ i. told o (trail (up_to i f) bank)) g
told_parts o f bank n g e = record { none = told_none o f bank; more = λ i h. told_more o f bank i; each = λ i h. e i }
