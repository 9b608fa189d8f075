-- Two answers that a public contract allows are the same, and so are the buffers left: every public call's contract says
-- that its answer, seen with the buffers, equals one outcome of the inputs. (A contract `r ≡ definition` needs only
-- `Rattle.rules.proofs.Refused.determined`.)
use mathlib.Core.Path.{◌≡◌, refl, ap, sym, ◌∙◌}
use mathlib.Core.Bool.{Bool, true, false, cond}
use mathlib.Core.List.{List, [], ◌∷◌}
use Prim.Native.Nat.{ℕ}
use lib.Dec.{eqb}
use lib.ListN.{get_or}
use Rattle.std.specs.Prelude.{Result, Ok, Err, Option, Some, None}
use Rattle.rules.specs.Base.{one}
use Rattle.rules.specs.Tile.{Tile}
use Rattle.rules.specs.Refusal.{Outcome}
use Rattle.rules.proofs.Refused.{determined}
use Rattle.rdp.specs.declared.tile.TileDescriptor.{TileDescriptor}
use Rattle.rdp.specs.declared.refusal.Refusal.{Refusal}
use Rattle.rdp.specs.declared.answer.Loaded.{Loaded}
use Rattle.rdp.specs.declared.answer.Replayed.{Replayed}
use Rattle.rdp.specs.declared.answer.Size.{Size}
use Rattle.rdp.specs.declared.answer.Sides.{Sides}
use Rattle.rdp.specs.declared.answer.Wrong.{Wrong}
use Rattle.rdp.specs.declared.answer.Wrong.TheVariants.{Missing, LeftOver, AnotherValue}
use Rattle.rdp.specs.declared.answer.Fault.{Fault}
use Rattle.rdp.specs.declared.answer.Sampled.{Sampled}
use Rattle.rdp.specs.declared.answer.Run.{Run}
use Rattle.rdp.specs.Refused.{refusal_of, settled}
use Rattle.rdp.specs.View.{answered, load_answered, replay_answered, size_answered, split_answered, yes_answered}
use Rattle.rdp.specs.View.{reason_answered, check_answered, sampling_answered, text_answered, run_answered, refusal_answered, tile_of}
use Rattle.rdp.specs.View.{wrong_number, check_numbers}
use Rattle.rdp.proofs.Refusals.{at, at_number, not_zero}

-- number k of an answer
number : ℕ → List ℕ → ℕ
number k l = get_or l k 0

-- the answer that an outcome tells, by what its numbers tell
told : {A : Type 0} → (List ℕ → A) → Outcome → Result A Refusal
told back o = cond (eqb o.refusal 0) (Ok (back o.numbers)) (Err (at o.refusal))

-- Numbers that tell what they were made of tell which answer it is.
told_answer : {A : Type 0} (numbers : A → List ℕ) (back : List ℕ → A) → ((a : A) → back (numbers a) ≡ a)
    → (instead : List ℕ) (r : Result A Refusal) (l : List (List ℕ)) → told back (settled numbers instead r l) ≡ r
unfolding told
told_answer numbers back same instead (Ok a) l = ap Ok (same a)
told_answer numbers back same instead (Err e) l = rw (not_zero e) (ap Err (at_number e))

pub settled_determined : {A : Type 0} (numbers : A → List ℕ) (back : List ℕ → A) → ((a : A) → back (numbers a) ≡ a)
    → (instead : List ℕ) (o : Outcome) (r s : Result A Refusal) (l m : List (List ℕ)) → settled numbers instead r l ≡ o
    → settled numbers instead s m ≡ o → (r ≡ s) × (l ≡ m)
settled_determined numbers back same instead o r s l m p q =
    let e : settled numbers instead r l ≡ settled numbers instead s m = determined p q in
    (sym (told_answer numbers back same instead r l) ∙ ap (told back) e ∙ told_answer numbers back same instead s m, left r s l m e)
  where
    buffers : (x : Result _ Refusal) (k : List (List ℕ)) → (settled numbers instead x k).buffers ≡ k
    buffers (Ok a) k = refl
    buffers (Err f) k = refl

    left : (x y : Result _ Refusal) (k n : List (List ℕ)) → settled numbers instead x k ≡ settled numbers instead y n → k ≡ n
    left x y k n e = sym (buffers x k) ∙ ap (λ z. z.buffers) e ∙ buffers y n

pub answered_determined : (o : Outcome) (r s : Result ℕ Refusal) (l m : List (List ℕ)) → answered r l ≡ o → answered s m ≡ o
    → (r ≡ s) × (l ≡ m)
unfolding number
answered_determined o r s l m = settled_determined (λ n. n ∷ []) (number 0) (λ n. refl) (0 ∷ []) o r s l m

pub text_determined : (o : Outcome) (r s : Result ℕ Refusal) (l m : List (List ℕ)) → text_answered r l ≡ o → text_answered s m ≡ o
    → (r ≡ s) × (l ≡ m)
text_determined = answered_determined

pub refusal_determined : (o : Outcome) (r s : Result Unit Refusal) (l m : List (List ℕ)) → refusal_answered r l ≡ o
    → refusal_answered s m ≡ o → (r ≡ s) × (l ≡ m)
refusal_determined o r s l m = settled_determined (λ u. []) (λ l. tt) (λ u. refl) [] o r s l m

-- the answer of a function that only tests: its refusal's number tells which it is
pub tested_determined : (n : ℕ) (r s : Result Unit Refusal) → refusal_of r ≡ n → refusal_of s ≡ n → r ≡ s
tested_determined n r s p q = (refusal_determined _ r s [] [] (seen r p) (seen s q)).0
  where
    seen : (x : Result Unit Refusal) → refusal_of x ≡ n → refusal_answered x [] ≡ record { refusal = n; numbers = []; buffers = [] }
    seen (Ok u) e = ap (λ k. record { refusal = k; numbers = []; buffers = [] }) e
    seen (Err f) e = ap (λ k. record { refusal = k; numbers = []; buffers = [] }) e

pub yes_determined : (o : Outcome) (r s : Result Bool Refusal) → yes_answered r ≡ o → yes_answered s ≡ o → r ≡ s
unfolding number
yes_determined o r s p q = (settled_determined _ (λ l. eqb (number 0 l) 1) same (0 ∷ []) o r s [] [] p q).0
  where
    same : (b : Bool) → eqb (number 0 (one b ∷ [])) 1 ≡ b
    same true = refl
    same false = refl

pub reason_determined : (o : Outcome) (r s : Result ℕ Refusal) → reason_answered r ≡ o → reason_answered s ≡ o → r ≡ s
reason_determined o r s p q = (answered_determined o r s [] [] p q).0

pub load_determined : (last : ℕ) (o : Outcome) (r s : Result Loaded Refusal) (l m : List (List ℕ)) → load_answered last r l ≡ o
    → load_answered last s m ≡ o → (r ≡ s) × (l ≡ m)
unfolding number
load_determined last o r s l m =
    settled_determined _ (λ l. record { count = number 0 l; made_up = number 1 l; number = number 2 l }) (λ a. refl) _ o r s l m

pub replay_determined : (last : ℕ) (o : Outcome) (r s : Result Replayed Refusal) (l m : List (List ℕ)) → replay_answered last r l ≡ o
    → replay_answered last s m ≡ o → (r ≡ s) × (l ≡ m)
unfolding number
replay_determined last o r s l m =
    settled_determined _ (λ l. record { count = number 0 l; number = number 1 l }) (λ a. refl) _ o r s l m

pub run_determined : (last : ℕ) (o : Outcome) (r s : Result Run Refusal) (l m : List (List ℕ)) → run_answered last r l ≡ o
    → run_answered last s m ≡ o → (r ≡ s) × (l ≡ m)
unfolding number
run_determined last o r s l m =
    settled_determined _ (λ l. record { records = number 0 l; end = number 1 l; number = number 2 l }) (λ a. refl) _ o r s l m

pub size_determined : (o : Outcome) (r s : Result Size Refusal) (l m : List (List ℕ)) → size_answered r l ≡ o → size_answered s m ≡ o
    → (r ≡ s) × (l ≡ m)
unfolding number
size_determined o r s l m =
    settled_determined _ (λ l. record { width = number 0 l; height = number 1 l }) (λ a. refl) _ o r s l m

pub split_determined : (o : Outcome) (r s : Result Sides Refusal) (l m : List (List ℕ)) → split_answered r l ≡ o
    → split_answered s m ≡ o → (r ≡ s) × (l ≡ m)
unfolding number
split_determined o r s l m =
    settled_determined _ (λ l. record { tuning = number 0 l; held_out = number 1 l }) (λ a. refl) _ o r s l m

pub sampling_determined : (o : Outcome) (r s : Result Sampled Refusal) → sampling_answered r ≡ o → sampling_answered s ≡ o → r ≡ s
unfolding number
sampling_determined o r s p q = (settled_determined _ back same _ o r s [] [] p q).0
  where
    back : List ℕ → Sampled
    back l = record { lookup = eqb (number 0 l) 1; width = number 1 l; height = number 2 l }

    flag : (b : Bool) → eqb (one b) 1 ≡ b
    flag true = refl
    flag false = refl

    same : (a : Sampled) → back (one a.lookup ∷ a.width ∷ a.height ∷ []) ≡ a
    same a = λ i. record { lookup = flag a.lookup i; width = a.width; height = a.height }

pub check_determined : (o : Outcome) (r s : Result (Option Fault) Refusal) → check_answered r ≡ o → check_answered s ≡ o → r ≡ s
unfolding number
check_determined o r s p q = (settled_determined check_numbers back same _ o r s [] [] p q).0
  where
    wrong_at : ℕ → Wrong
    wrong_at n = cond (eqb n 1) Missing (cond (eqb n 2) LeftOver AnotherValue)

    back : List ℕ → Option Fault
    back l = cond (eqb (number 0 l) 1) None (Some (record { address = number 1 l; wrong = wrong_at (number 2 l) }))

    wrong_same : (w : Wrong) → wrong_at (wrong_number w) ≡ w
    wrong_same Missing = refl
    wrong_same LeftOver = refl
    wrong_same AnotherValue = refl

    same : (a : Option Fault) → back (check_numbers a) ≡ a
    same None = refl
    same (Some f) = λ i. Some (record { address = f.address; wrong = wrong_same f.wrong i })

-- a tile by its eleven numbers
pub tile_determined : (t : Tile) (r s : TileDescriptor) → tile_of r ≡ t → tile_of s ≡ t → r ≡ s
tile_determined t r s p q =
    let same : tile_of r ≡ tile_of s = determined p q in
    λ i. record {
      fmt = (same i).fmt;
      siz = (same i).siz;
      palette = (same i).palette;
      cms = (same i).cms;
      cmt = (same i).cmt;
      masks = (same i).masks;
      maskt = (same i).maskt;
      line = record { 0 = (same i).line };
      tmem_addr = record { 0 = (same i).tmem_addr };
      width = (same i).width;
      height = (same i).height;
    }
