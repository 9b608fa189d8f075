-- `decimal::number::put_digits` writes one digit, or those of the number's tenth and one more. Assumes nothing.
use native.Mathlib.Omega.{arith}
use Prim.Native.Nat.{ℕ, ◌+◌, ◌%◌}
use Rattle.decimal.proofs.Digits.{Stored, one-digit, digits_more, last_digit}
use Rattle.decimal.proofs.number.+put_digits.Goals.{Then-n-lt10, After-put_digits-k}
use Rattle.decimal.proofs.number.+put_digits.Goals as goal

-- what is stored where the number is one digit, and where it has more
one : (t : ℕ) (c : Then-n-lt10 t) → Stored c.args.n 0 (c.args.n + 48) c.args.out.now c.args.out.now
one t c = one-digit c.args.n c.args.out.now c.if-n-lt10.true c.requires

more : (t : ℕ) (c : After-put_digits-k t)
    → Stored c.args.n c.put_digits-k.result (c.args.n % 10 + 48) c.put_digits-k.new.out c.args.out.now
more t c =
    let e = c.put_digits-k.ensures in
    last_digit c.args.n c.if-n-lt10.false c.ranges.n.fits _ _ _ c.requires e.value e.out_after

pub bounds-out-0 : goal.bounds-out-0
bounds-out-0 t c = (one t (goal.at.bounds-out-0 t c).Then-n-lt10).room

pub returns-then-n-lt10-clause-value : goal.returns-then-n-lt10-clause-value
returns-then-n-lt10-clause-value t c = (one t (goal.at.returns-then-n-lt10-clause-value t c).Then-n-lt10).count

pub returns-then-n-lt10-clause-out_after : goal.returns-then-n-lt10-clause-out_after
returns-then-n-lt10-clause-out_after t c = (one t (goal.at.returns-then-n-lt10-clause-out_after t c).Then-n-lt10).text

pub put_digits-k-requires : goal.put_digits-k-requires
put_digits-k-requires t c = (omega arith, omega (arith, digits_more c.args.n c.if-n-lt10.false c.ranges.n.fits))

pub bounds-out-k : goal.bounds-out-k
bounds-out-k t c = (more t (goal.at.bounds-out-k t c).After-put_digits-k).room

pub overflow_add-result : goal.overflow_add-result
overflow_add-result t c = omega (arith, (more t (goal.at.overflow_add-result t c).After-put_digits-k).room)

pub returns-clause-value : goal.returns-clause-value
returns-clause-value t c = (more t (goal.at.returns-clause-value t c).After-put_digits-k).count

pub returns-clause-out_after : goal.returns-clause-out_after
returns-clause-out_after t c = (more t (goal.at.returns-clause-out_after t c).After-put_digits-k).text
