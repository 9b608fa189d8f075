-- `key::cut::cut_part` cuts a part byte by byte: so far, the part's first k bytes and their count, for whatever list the notes are
-- of. Assumes nothing.
use mathlib.Core.Path.{◌≡◌}
use Prim.Native.Nat.{ℕ, ◌+◌, ◌<◌}
use native.Mathlib.Omega.{arith}
use lib.ListN.{length}
use Rattle.key.proofs.Cuts.{key_more, count_more}
use Rattle.key.proofs.cut.cut_part.Goals as goal

pub loop-k-preserved : goal.loop-k-preserved
loop-k-preserved c =
    let a : ℕ = c.args.from + c.loop-k.k in
    let i = c.loop-k.invariant in
    let h : a < 4096 = omega arith in
    let k : a < length c.loop-k.key = omega arith in
    let next : c.args.from + (c.loop-k.k + 1) ≡ a + 1 = omega arith in
    record {
      few = omega (arith, c.requires.by_index a);
      so_far = λ m n f.
          rw (next, c.kept_byte.ensures)
          (key_more c.args.bank.now _ _ m a h k n (i.so_far m n f).0, count_more _ m a _ _ h n (i.so_far m n f).1);
    }
