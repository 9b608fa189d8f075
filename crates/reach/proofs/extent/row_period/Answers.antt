-- `reach::extent::row_period` shifts by the zeros at the end of the stride, at most 12: antt counts both ways at each of
-- the 512 lines.
use Rattle.std.proofs.Common.{◌≡◌, ℕ, ◌*◌, ◌≤◌, min, arith}
use Rattle.std.specs.Int.Count.{count_trailing_zeros}
use Rattle.rules.specs.Reach.{trailing_zeros, row_period}
use Rattle.rules.proofs.Computed.{agree_below}
use Rattle.reach.proofs.extent.row_period.Goals as goal

-- the code's count of a line's zeros is the rule's
zeros_of : (l : ℕ) → l ≤ 511 → min (count_trailing_zeros 64 (8 * l)) 12 ≡ trailing_zeros 12 (8 * l)
unfolding trailing_zeros count_trailing_zeros
zeros_of l h = agree_below 512 (λ l. min (count_trailing_zeros 64 (8 * l)) 12) (λ l. trailing_zeros 12 (8 * l)) tt l (omega arith)

pub returns : goal.returns
unfolding row_period
returns c = rw (c.max.ensures, c.min.ensures, c.bytes-stride.ensures, zeros_of _ c.args.asked.in_range.line)
