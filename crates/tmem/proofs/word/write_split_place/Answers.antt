-- `tmem::word::write_split_place` stores two pairs, which ones by the rule's test of the format. Assumes nothing.
use mathlib.Core.Path.{◌≡◌}
use Prim.Native.Nat.{◌+◌, ◌-◌}
use native.Mathlib.Omega.{arith}
use borrow.Author.Tests.{eq-eqb, ne_eqb}
use Rattle.tmem.proofs.Carry.{after}
use Rattle.tmem.proofs.word.write_split_place.Goals as goal

pub returns-then-tile-eq1 : goal.returns-then-tile-eq1
returns-then-tile-eq1 c =
    let k = c.args.k in
    let same : k + 3 - 2 ≡ k + 1 = omega arith in
    rw (eq-eqb _ _ c.if-tile-eq1.true, same) (after c.store_pair.ensures c.store_pair-then-tile-eq1.ensures)

pub returns : goal.returns
returns c =
    let k = c.args.k in
    let same : k + 3 - 1 ≡ k + 2 = omega arith in
    rw (ne_eqb _ _ c.if-tile-eq1.false, same) (after c.store_pair-2.ensures c.store_pair-3.ensures)
