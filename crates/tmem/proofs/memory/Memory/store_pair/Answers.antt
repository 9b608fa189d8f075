-- `tmem::memory::Memory::store_pair` carries out its two stores: two bytes of the bank, and number and reason at their addresses.
-- Assumes nothing.
use denote.Ref.{at_last}
use mathlib.Core.Path.{refl, ap}
use Prim.Native.Nat.{◌+◌}
use lib.ListN.{set}
use Rattle.rules.specs.Base.{stamps}
use Rattle.rules.specs.Load.{stored, written, reasoned}
use Rattle.tmem.proofs.memory.Memory.store_pair.Goals as goal

pub returns : goal.returns
unfolding stored written stamps reasoned
returns c =
    let m = c.args.self.now in
    let at = c.args.at.0 in
    record {
      bank_is = λ i. at_last m.bank (set (set m.bank.now at (c.byte_of.ensures i)) (at + 1) (c.byte_of-2.ensures i));
      map_is = ap (λ w. at_last m.written w.map.now) c.mark.ensures;
      reasons_is = refl;
      label_is = refl;
    }
