-- `reach::rows::four_whole` joins word after word: `all` is the words below k in one number.
use Rattle.std.proofs.Common.{◌≡◌, ◌+◌, ◌*◌}
use Rattle.reach.specs.Words.{ors}
use Rattle.reach.specs.Span.{eight_in}
use Rattle.reach.proofs.rows.four_whole.Given as goal

abbrev pub invariant-loop-k : goal.invariant-loop-k
invariant-loop-k l = l.all ≡ ors l.k (λ n. eight_in l.reasons l.one (l.from + n * l.line))
