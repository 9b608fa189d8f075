-- `decimal::number::write_number` lends the part from `at` on for the digits and stores the byte after them. The digits are ten at
-- most. Assumes nothing.
use native.Mathlib.Omega.{arith}
use lib.ListN.{length-take, length-drop, length-append}
use Rattle.decimal.proofs.Decimals.{decimal_short}
use Rattle.decimal.proofs.Digits.{after_room, after-put}
use Rattle.decimal.proofs.number.write_number.Goals as goal

pub put_digits-requires : goal.put_digits-requires
put_digits-requires c = simp (length-take, length-drop) (omega (arith, decimal_short c.args.n))

pub overflow_add-end : goal.overflow_add-end
overflow_add-end c = omega (arith, decimal_short c.args.n)

pub bounds-out-end : goal.bounds-out-end
bounds-out-end c =
    let d = c.put_digits.ensures in
    after_room c.args.n c.args.after _ _ _ _ c.requires d.value d.out_after

pub overflow_add-result : goal.overflow_add-result
overflow_add-result c = omega (arith, decimal_short c.args.n)

pub returns : goal.returns
returns c =
    let d = c.put_digits.ensures in
    record {
      value = simp length-append (omega arith);
      out_after = after-put c.args.n c.args.after _ _ _ _ c.requires d.value d.out_after;
    }
