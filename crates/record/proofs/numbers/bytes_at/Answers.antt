-- `record::numbers::bytes_at` reads each byte where there is one, and past the end zero. Assumes nothing.
use Prim.Native.Nat.{◌+◌}
use borrow.Author.Rules.{rules}
use Rattle.rules.specs.Lister.{byte}
use Rattle.record.proofs.Made.{made}
use Rattle.record.proofs.numbers.bytes_at.Goals as goal

pub returns : goal.returns
returns g c =
    made _ _ (λ i. byte c.args.bytes.now (c.args.k + i)) 0 (λ i y q k. search rules) c.from_fn.result g.row.N c.from_fn.ensures.items
