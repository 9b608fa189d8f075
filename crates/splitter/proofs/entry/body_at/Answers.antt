-- `splitter::entry::body_at` lends the body as a part of the entries. Assumes nothing.
use mathlib.Core.Path.{◌≡◌, ap, sym, ◌∙◌}
use Prim.Native.Nat.{ℕ, ◌+◌, ◌-◌, ◌*◌}
use native.Mathlib.Omega.{arith}
use lib.ListN.{take, drop}
use borrow.Author.Rules.{rules}
use Rattle.rules.specs.Split.{entry_size, capture_size}
use Rattle.splitter.specs.Bodies.{body_size}
use Rattle.splitter.proofs.Bodies.{body_part}
use Rattle.splitter.proofs.entry.body_at.Goals as goal

pub returns : goal.returns
returns c =
    let a = c.args in
    let start : ℕ = a.i * entry_size + capture_size in
    let size : (start + body_size) - start ≡ body_size = omega arith in
    let part : c.unwrap.result.now ≡ take (start + body_size - start) (drop start a.entries.now) = search rules in
    part ∙ ap (λ n. take n (drop start a.entries.now)) size ∙ sym (body_part a.entries.now a.i)
