-- Two answers that a public contract allows are the same, and so are the buffers left: every export's contract says
-- that its answer, seen with the buffers, equals one outcome of the inputs. (A contract `r ≡ definition` needs only
-- `Rattle.rules.proofs.Refused.determined`.)
use mathlib.Core.Path.{◌≡◌, ap}
use mathlib.Core.List.{List}
use Prim.Native.Nat.{ℕ}
use lib.ListN.{get_or}
use Rattle.rules.specs.Refusal.{Outcome}
use Rattle.rules.proofs.Refused.{determined}
use Rattle.tulonkasa.specs.declared.answer.Answer.{Answer}
use Rattle.tulonkasa.specs.declared.answer.LoadAnswer.{LoadAnswer}
use Rattle.tulonkasa.specs.declared.answer.ReplayAnswer.{ReplayAnswer}
use Rattle.tulonkasa.specs.declared.answer.SizeAnswer.{SizeAnswer}
use Rattle.tulonkasa.specs.declared.answer.SplitAnswer.{SplitAnswer}
use Rattle.tulonkasa.specs.declared.answer.YesAnswer.{YesAnswer}
use Rattle.tulonkasa.specs.declared.answer.ReasonAnswer.{ReasonAnswer}
use Rattle.tulonkasa.specs.declared.answer.CheckAnswer.{CheckAnswer}
use Rattle.tulonkasa.specs.declared.answer.SamplingAnswer.{SamplingAnswer}
use Rattle.tulonkasa.specs.View.{answered, load_answered, replay_answered, size_answered, split_answered, yes_answered}
use Rattle.tulonkasa.specs.View.{reason_answered, check_answered, sampling_answered, refusal_answered}

-- number k of an outcome
number : ℕ → Outcome → ℕ
number k o = get_or o.numbers k 0

pub answered_determined : (o : Outcome) (r s : Answer) (l m : List (List ℕ)) → answered r l ≡ o → answered s m ≡ o
    → (r ≡ s) × (l ≡ m)
unfolding number
answered_determined o r s l m p q =
    let e : answered r l ≡ answered s m = determined p q in
    ((λ i. record { refusal = (e i).refusal; count = number 0 (e i) }), ap (λ o. o.buffers) e)

pub load_determined : (o : Outcome) (r s : LoadAnswer) (l m : List (List ℕ)) → load_answered r l ≡ o → load_answered s m ≡ o
    → (r ≡ s) × (l ≡ m)
unfolding number
load_determined o r s l m p q =
    let e : load_answered r l ≡ load_answered s m = determined p q in (
      (λ i. record { refusal = (e i).refusal; count = number 0 (e i); made_up = number 1 (e i); number = number 2 (e i) }),
      ap (λ o. o.buffers) e,
    )

pub replay_determined : (o : Outcome) (r s : ReplayAnswer) (l m : List (List ℕ)) → replay_answered r l ≡ o → replay_answered s m ≡ o
    → (r ≡ s) × (l ≡ m)
unfolding number
replay_determined o r s l m p q =
    let e : replay_answered r l ≡ replay_answered s m = determined p q in
    ((λ i. record { refusal = (e i).refusal; count = number 0 (e i); number = number 1 (e i) }), ap (λ o. o.buffers) e)

pub size_determined : (o : Outcome) (r s : SizeAnswer) (l m : List (List ℕ)) → size_answered r l ≡ o → size_answered s m ≡ o
    → (r ≡ s) × (l ≡ m)
unfolding number
size_determined o r s l m p q =
    let e : size_answered r l ≡ size_answered s m = determined p q in
    ((λ i. record { refusal = (e i).refusal; width = number 0 (e i); height = number 1 (e i) }), ap (λ o. o.buffers) e)

pub split_determined : (o : Outcome) (r s : SplitAnswer) (l m : List (List ℕ)) → split_answered r l ≡ o → split_answered s m ≡ o
    → (r ≡ s) × (l ≡ m)
unfolding number
split_determined o r s l m p q =
    let e : split_answered r l ≡ split_answered s m = determined p q in
    ((λ i. record { refusal = (e i).refusal; tuning = number 0 (e i); held_out = number 1 (e i) }), ap (λ o. o.buffers) e)

pub yes_determined : (o : Outcome) (r s : YesAnswer) → yes_answered r ≡ o → yes_answered s ≡ o → r ≡ s
unfolding number
yes_determined o r s p q =
    let e : yes_answered r ≡ yes_answered s = determined p q in
    λ i. record { refusal = (e i).refusal; yes = number 0 (e i) }

pub reason_determined : (o : Outcome) (r s : ReasonAnswer) → reason_answered r ≡ o → reason_answered s ≡ o → r ≡ s
unfolding number
reason_determined o r s p q =
    let e : reason_answered r ≡ reason_answered s = determined p q in
    λ i. record { refusal = (e i).refusal; reason = number 0 (e i) }

pub check_determined : (o : Outcome) (r s : CheckAnswer) → check_answered r ≡ o → check_answered s ≡ o → r ≡ s
unfolding number
check_determined o r s p q =
    let e : check_answered r ≡ check_answered s = determined p q in
    λ i. record { refusal = (e i).refusal; yes = number 0 (e i); address = number 1 (e i); wrong = number 2 (e i) }

pub sampling_determined : (o : Outcome) (r s : SamplingAnswer) → sampling_answered r ≡ o → sampling_answered s ≡ o → r ≡ s
unfolding number
sampling_determined o r s p q =
    let e : sampling_answered r ≡ sampling_answered s = determined p q in
    λ i. record { refusal = (e i).refusal; flag = number 0 (e i); width = number 1 (e i); height = number 2 (e i) }

pub refusal_determined : (o : Outcome) (r s : ℕ) (l m : List (List ℕ)) → refusal_answered r l ≡ o → refusal_answered s m ≡ o
    → (r ≡ s) × (l ≡ m)
refusal_determined o r s l m p q =
    let e : refusal_answered r l ≡ refusal_answered s m = determined p q in
    (ap (λ o. o.refusal) e, ap (λ o. o.buffers) e)
