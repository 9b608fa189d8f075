-- Refusals that are tested one after the other.
use mathlib.Core.Path.{◌≡◌, ap, sym, ◌∙◌}
use mathlib.Core.Bool.{Bool, true, false, cond}
use mathlib.Core.List.{[], ◌∷◌}
use Prim.Native.Nat.{ℕ}
use Rattle.std.specs.Prelude.{Result, Err, IsErrAnd, Option, None, ok_or}
use Rattle.rules.specs.Refusal.{◌if◌, first}
use Rattle.rules.proofs.Refused.{Numbered, first_zero}
use Rattle.rdp.specs.Refused.{number_of, refusal_of}
use Rattle.rdp.specs.declared.refusal.Refusal.{Refusal}
use Rattle.rdp.proofs.Refusals.{before}

-- a test that passed
pub passed_one : (n : ℕ) (b : Bool) → (n ≡ 0 → ⊥) → 0 ≡ first ((n if b) ∷ []) → b ≡ false
passed_one n b z e = (first_zero (n if b) [] z (sym e)).0

-- a test that failed, whatever is answered after it
pub refused_one : {A : Type 0} (r : Result A Refusal) (e : Refusal) (n : ℕ) (b : Bool) (after : ℕ) → IsErrAnd r (λ f. f ≡ e)
    → Numbered ((n if b) ∷ []) → number_of e ≡ first ((n if b) ∷ []) → refusal_of r ≡ cond b n after
unfolding first
refused_one r e n b after h w p = before r e ((n if b) ∷ []) ((after if true) ∷ []) h w p

-- the refusal that stands in for nothing
pub of_none : {A : Type 0} (o : Option A) (e f : Refusal) → o ≡ None → Err f ≡ ok_or o e → number_of f ≡ number_of e
of_none {A} o e f n h =
    let k : Err f ≡ Err e = h ∙ ap (λ (x : Option A). ok_or x e) n in
    let i : f ≡ e = cc in
    ap number_of i
