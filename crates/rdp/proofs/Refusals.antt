-- Laws of refusals that are handed on: each has a number other than 0, which tells what it is.
use mathlib.Core.Path.{◌≡◌, refl, ap, sym, ◌∙◌}
use mathlib.Core.Bool.{false, cond}
use mathlib.Core.List.{List, ◌++◌}
use Prim.Native.Nat.{ℕ}
use lib.Dec.{eqb}
use borrow.Author.Tests.{eqb-false}
use Rattle.std.specs.Prelude.{Result, Ok, Err, IsErrAnd}
use Rattle.rules.specs.Refusal.{Test, first, zeros, call, call_or}
use Rattle.rules.proofs.Refused.{Numbered, first-before, first-after, refused_or_is, refused_is}
use Rattle.rdp.specs.Refused.{number_of, refusal_of, settled}
use Rattle.rdp.specs.declared.refusal.Refusal.{Refusal}
use Rattle.rdp.specs.declared.refusal.Refusal.TheVariants.{Length, Tile, ModeOrLane, Load, Pair, Buffer, Trail, Torn}
use Rattle.rdp.specs.declared.refusal.Refusal.TheVariants.{Kind, Beyond, ZeroSide, Header, Tuples, Texels, Count, Entries, Spent, Reason}

pub not_zero : (e : Refusal) → eqb (number_of e) 0 ≡ false
not_zero Length = refl
not_zero Tile = refl
not_zero ModeOrLane = refl
not_zero Load = refl
not_zero Pair = refl
not_zero Buffer = refl
not_zero Trail = refl
not_zero Torn = refl
not_zero Kind = refl
not_zero Beyond = refl
not_zero ZeroSide = refl
not_zero Header = refl
not_zero Tuples = refl
not_zero Texels = refl
not_zero Count = refl
not_zero Entries = refl
not_zero Spent = refl
not_zero Reason = refl

-- no refusal has the number of success
pub numbered : (e : Refusal) → number_of e ≡ 0 → ⊥
numbered e = eqb-false (number_of e) 0 (not_zero e)

-- the refusal of a number
pub at : ℕ → Refusal
at n =
    cond (eqb n 1) Length (
    cond (eqb n 2) Tile (
    cond (eqb n 3) ModeOrLane (
    cond (eqb n 4) Load (
    cond (eqb n 5) Pair (
    cond (eqb n 6) Buffer (
    cond (eqb n 7) Trail (
    cond (eqb n 8) Torn (
    cond (eqb n 10) Kind (
    cond (eqb n 11) Beyond (
    cond (eqb n 12) ZeroSide (
    cond (eqb n 13) Header (
    cond (eqb n 14) Tuples (
    cond (eqb n 15) Texels (
    cond (eqb n 16) Count (
    cond (eqb n 17) Entries (
    cond (eqb n 18) Spent (
    Reason)))))))))))))))))

pub at_number : (e : Refusal) → at (number_of e) ≡ e
unfolding at
at_number Length = refl
at_number Tile = refl
at_number ModeOrLane = refl
at_number Load = refl
at_number Pair = refl
at_number Buffer = refl
at_number Trail = refl
at_number Torn = refl
at_number Kind = refl
at_number Beyond = refl
at_number ZeroSide = refl
at_number Header = refl
at_number Tuples = refl
at_number Texels = refl
at_number Count = refl
at_number Entries = refl
at_number Spent = refl
at_number Reason = refl

-- two refusals of one number are one
pub same_number : (e f : Refusal) → number_of e ≡ number_of f → e ≡ f
same_number e f p = sym (at_number e) ∙ ap at p ∙ at_number f

-- what a `?` hands on
handed_on : {A : Type 0} (r : Result A Refusal) (e : Refusal) → IsErrAnd r (λ f. f ≡ e) → r ≡ Err e
handed_on (Ok a) e h = absurd h
handed_on (Err f) e h = ap Err h

-- A refusal of the tests so far is that of all, whatever stands after them; where they passed, those after them decide.
pub before : {A : Type 0} (r : Result A Refusal) (e : Refusal) (l m : List Test) → IsErrAnd r (λ f. f ≡ e) → Numbered l
    → number_of e ≡ first l → refusal_of r ≡ first (l ++ m)
before r e l m h n p = rw (handed_on r e h) (first-before l m (number_of e) n p (numbered e))

pub after : (n : ℕ) (l m : List Test) → Numbered l → 0 ≡ first l → n ≡ first m → n ≡ first (l ++ m)
after n l m w p q = q ∙ sym (first-after l m w (sym p))

-- A call whose refusal is handed on answers as one that is refused, with the buffers as they were lent.
pub refused_call : {A : Type 0} (numbers_of : A → List ℕ) (r : Result A Refusal) (e : Refusal) (tests : List Test) (numbers : List ℕ)
    (left lent : List (List ℕ)) → IsErrAnd r (λ f. f ≡ e) → number_of e ≡ first tests
    → settled numbers_of (zeros numbers) r lent ≡ call tests numbers left lent
refused_call numbers_of r e tests numbers left lent h p =
    rw (handed_on r e h) (refused_is tests numbers left lent (number_of e) p (numbered e))

pub refused_call_or : {A : Type 0} (numbers_of : A → List ℕ) (r : Result A Refusal) (e : Refusal) (tests : List Test)
    (numbers instead : List ℕ) (left lent : List (List ℕ)) → IsErrAnd r (λ f. f ≡ e) → number_of e ≡ first tests
    → settled numbers_of instead r lent ≡ call_or tests numbers instead left lent
refused_call_or numbers_of r e tests numbers instead left lent h p =
    rw (handed_on r e h) (refused_or_is tests numbers instead left lent (number_of e) p (numbered e))
