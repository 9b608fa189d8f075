-- The exports' answers as the rules have them. It gives no field a meaning.
use Rattle.std.specs.Prelude.{List, [], ◌∷◌, ℕ}
use Rattle.rules.specs.Refusal.{Outcome}
use Rattle.tulonkasa.specs.declared.answer.Answer.{Answer}
use Rattle.tulonkasa.specs.declared.answer.LoadAnswer.{LoadAnswer}
use Rattle.tulonkasa.specs.declared.answer.ReplayAnswer.{ReplayAnswer}
use Rattle.tulonkasa.specs.declared.answer.SizeAnswer.{SizeAnswer}
use Rattle.tulonkasa.specs.declared.answer.SplitAnswer.{SplitAnswer}
use Rattle.tulonkasa.specs.declared.answer.YesAnswer.{YesAnswer}
use Rattle.tulonkasa.specs.declared.answer.ReasonAnswer.{ReasonAnswer}
use Rattle.tulonkasa.specs.declared.answer.CheckAnswer.{CheckAnswer}
use Rattle.tulonkasa.specs.declared.answer.SamplingAnswer.{SamplingAnswer}

-- a call's answer with the lent buffers as it left them
abbrev pub answered : Answer → List (List ℕ) → Outcome
answered r left = record { refusal = r.refusal; numbers = r.count ∷ []; buffers = left }

abbrev pub load_answered : LoadAnswer → List (List ℕ) → Outcome
load_answered r left = record { refusal = r.refusal; numbers = r.count ∷ r.made_up ∷ r.number ∷ []; buffers = left }

abbrev pub replay_answered : ReplayAnswer → List (List ℕ) → Outcome
replay_answered r left = record { refusal = r.refusal; numbers = r.count ∷ r.number ∷ []; buffers = left }

abbrev pub size_answered : SizeAnswer → List (List ℕ) → Outcome
size_answered r left = record { refusal = r.refusal; numbers = r.width ∷ r.height ∷ []; buffers = left }

abbrev pub split_answered : SplitAnswer → List (List ℕ) → Outcome
split_answered r left = record { refusal = r.refusal; numbers = r.tuning ∷ r.held_out ∷ []; buffers = left }

abbrev pub yes_answered : YesAnswer → Outcome
yes_answered r = record { refusal = r.refusal; numbers = r.yes ∷ []; buffers = [] }

abbrev pub reason_answered : ReasonAnswer → Outcome
reason_answered r = record { refusal = r.refusal; numbers = r.reason ∷ []; buffers = [] }

abbrev pub check_answered : CheckAnswer → Outcome
check_answered r = record { refusal = r.refusal; numbers = r.yes ∷ r.address ∷ r.wrong ∷ []; buffers = [] }

abbrev pub sampling_answered : SamplingAnswer → Outcome
sampling_answered r = record { refusal = r.refusal; numbers = r.flag ∷ r.width ∷ r.height ∷ []; buffers = [] }

-- the answer of a call that has no number beside its refusal
abbrev pub refusal_answered : ℕ → List (List ℕ) → Outcome
refusal_answered refusal left = record { refusal = refusal; numbers = []; buffers = left }
