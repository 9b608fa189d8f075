-- Refusals by their numbers, and what a call answers as the rules have it.
use Rattle.std.specs.Prelude.{List, ℕ, Result, Ok, Err}
use Rattle.rules.specs.Refusal.{Outcome}
use Rattle.rdp.specs.declared.refusal.Refusal.{Refusal}
use Rattle.rdp.specs.declared.refusal.Refusal.TheVariants.{Length, Tile, ModeOrLane, Load, Pair, Buffer, Trail, Torn}
use Rattle.rdp.specs.declared.refusal.Refusal.TheVariants.{Kind, Beyond, ZeroSide, Header, Tuples, Texels, Count, Entries, Spent, Reason}

-- document 01's and 02's numbers
abbrev pub number_of : Refusal → ℕ
number_of Length = 1
number_of Tile = 2
number_of ModeOrLane = 3
number_of Load = 4
number_of Pair = 5
number_of Buffer = 6
number_of Trail = 7
number_of Torn = 8
number_of Kind = 10
number_of Beyond = 11
number_of ZeroSide = 12
number_of Header = 13
number_of Tuples = 14
number_of Texels = 15
number_of Count = 16
number_of Entries = 17
number_of Spent = 18
number_of Reason = 19

-- "Success is 0."
abbrev pub refusal_of : {A : Type 0} → Result A Refusal → ℕ
refusal_of (Ok a) = 0
refusal_of (Err e) = number_of e

-- What a call answers with the lent buffers as it left them: its numbers, or where it refused the refusal's number and `instead`.
abbrev pub settled : {A : Type 0} → (A → List ℕ) → List ℕ → Result A Refusal → List (List ℕ) → Outcome
settled numbers instead (Ok a) left = record { refusal = 0; numbers = numbers a; buffers = left }
settled numbers instead (Err e) left = record { refusal = number_of e; numbers = instead; buffers = left }
