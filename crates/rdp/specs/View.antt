-- The declared records as the rules have them. It gives no field a meaning.
use Rattle.std.specs.Prelude.{Bool, List, [], ◌∷◌, ℕ, Option, Some, None, Result}
use Rattle.rules.specs.Base.{one}
use Rattle.rules.specs.Tile.{Tile}
use Rattle.rules.specs.Refusal.{Outcome}
use Rattle.rdp.specs.Refused.{settled}
use Rattle.rdp.specs.declared.tile.TileDescriptor.{TileDescriptor}
use Rattle.rdp.specs.declared.refusal.Refusal.{Refusal}
use Rattle.rdp.specs.declared.answer.Loaded.{Loaded}
use Rattle.rdp.specs.declared.answer.Replayed.{Replayed}
use Rattle.rdp.specs.declared.answer.Size.{Size}
use Rattle.rdp.specs.declared.answer.Sides.{Sides}
use Rattle.rdp.specs.declared.answer.Wrong.{Wrong}
use Rattle.rdp.specs.declared.answer.Wrong.TheVariants.{Missing, LeftOver, AnotherValue}
use Rattle.rdp.specs.declared.answer.Fault.{Fault}
use Rattle.rdp.specs.declared.answer.Sampled.{Sampled}
use Rattle.rdp.specs.declared.answer.Run.{Run}

-- the same fields, with the units' numbers
abbrev pub tile_of : TileDescriptor → Tile
tile_of t =
    record {
      fmt = t.fmt;
      siz = t.siz;
      palette = t.palette;
      cms = t.cms;
      cmt = t.cmt;
      masks = t.masks;
      maskt = t.maskt;
      line = t.line.0;
      tmem_addr = t.tmem_addr.0;
      width = t.width;
      height = t.height;
    }

-- a call's answer of one number, with the lent buffers as it left them
abbrev pub answered : Result ℕ Refusal → List (List ℕ) → Outcome
answered r left = settled (λ n. n ∷ []) (0 ∷ []) r left

-- of a call that answers nothing beside its refusal
abbrev pub refusal_answered : Result Unit Refusal → List (List ℕ) → Outcome
refusal_answered r left = settled (λ u. []) [] r left

-- of a yes or no, which is the number 1 or 0
abbrev pub yes_answered : Result Bool Refusal → Outcome
yes_answered r = settled (λ b. one b ∷ []) (0 ∷ []) r []

-- of a reason, 0 for none
abbrev pub reason_answered : Result ℕ Refusal → Outcome
reason_answered r = settled (λ n. n ∷ []) (0 ∷ []) r []

-- of a load after the one whose number is `last`, which a refused one hands back
abbrev pub load_answered : ℕ → Result Loaded Refusal → List (List ℕ) → Outcome
load_answered last r left = settled (λ a. a.count ∷ a.made_up ∷ a.number ∷ []) (0 ∷ 0 ∷ last ∷ []) r left

abbrev pub replay_answered : ℕ → Result Replayed Refusal → List (List ℕ) → Outcome
replay_answered last r left = settled (λ a. a.count ∷ a.number ∷ []) (0 ∷ last ∷ []) r left

abbrev pub run_answered : ℕ → Result Run Refusal → List (List ℕ) → Outcome
run_answered last r left = settled (λ a. a.records ∷ a.end ∷ a.number ∷ []) (0 ∷ 0 ∷ last ∷ []) r left

abbrev pub size_answered : Result Size Refusal → List (List ℕ) → Outcome
size_answered r left = settled (λ a. a.width ∷ a.height ∷ []) (0 ∷ 0 ∷ []) r left

abbrev pub split_answered : Result Sides Refusal → List (List ℕ) → Outcome
split_answered r left = settled (λ a. a.tuning ∷ a.held_out ∷ []) (0 ∷ 0 ∷ []) r left

abbrev pub sampling_answered : Result Sampled Refusal → Outcome
sampling_answered r = settled (λ a. one a.lookup ∷ a.width ∷ a.height ∷ []) (0 ∷ 0 ∷ 0 ∷ []) r []

-- the end of a text that was written into a lent buffer
abbrev pub text_answered : Result ℕ Refusal → List (List ℕ) → Outcome
text_answered r left = settled (λ n. n ∷ []) (0 ∷ []) r left

abbrev pub wrong_number : Wrong → ℕ
wrong_number Missing = 1
wrong_number LeftOver = 2
wrong_number AnotherValue = 3

-- a check's yes, the lowest wrong address and what is wrong there
abbrev pub check_numbers : Option Fault → List ℕ
check_numbers None = 1 ∷ 0 ∷ 0 ∷ []
check_numbers (Some f) = 0 ∷ f.address ∷ wrong_number f.wrong ∷ []

abbrev pub check_answered : Result (Option Fault) Refusal → Outcome
check_answered r = settled check_numbers (0 ∷ 0 ∷ 0 ∷ []) r []
