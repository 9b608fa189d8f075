-- `reach::rows::four_words` joins word after word: `all` is the words below k in one number.
use Rattle.std.proofs.Common.{◌≡◌, ◌+◌, ◌*◌, cond}
use Rattle.std.specs.Int.Bits.{bit_and}
use Rattle.rules.specs.Base.{odd}
use Rattle.reach.specs.Words.{ors}
use Rattle.reach.specs.Span.{eight_in}
use Rattle.reach.proofs.rows.four_words.Given as goal

abbrev pub invariant-loop-k : goal.invariant-loop-k
invariant-loop-k l = l.all ≡ ors l.k (λ n. bit_and (cond (odd n) l.uneven l.even) (eight_in l.reasons l.one (l.from + n * l.line)))
