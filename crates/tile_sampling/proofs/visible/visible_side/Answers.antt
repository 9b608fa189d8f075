-- `tile_sampling::visible::visible_side` cuts by the rule's test: above 31 2^mask is below no size, and up to 31 the shift loses
-- nothing. Assumes nothing.
use mathlib.Core.Path.{◌≡◌, refl}
use mathlib.Core.Bool.{Bool, true, false, cond, ◌&&◌}
use Prim.Native.Nat.{ℕ, ◌≤◌, ◌^◌, ◌*◌, ◌%◌}
use native.Mathlib.Omega.{arith}
use lib.Dec.{ltb}
use lib.Pow.{pow_mono}
use borrow.Author.Tests.{le-ltb}
use Rattle.rules.specs.Sampling.{repeats}
use Rattle.rules.proofs.Computed.{agree_below}
use Rattle.tile_sampling.proofs.visible.visible_side.Goals as goal

-- a period that is not below the size cuts nothing
uncut : (r : Bool) (period size : ℕ) → size ≤ period → size ≡ cond (r && ltb period size) period size
uncut true period size h = rw (le-ltb period size h)
uncut false period size h = refl

-- up to 31 the shift loses nothing
shifted : (mask : ℕ) → mask ≤ 31 → 1 * 2 ^ mask % 4294967296 ≡ 2 ^ mask
shifted mask h = agree_below 32 (λ k. 1 * 2 ^ k % 4294967296) (λ k. 2 ^ k) tt mask (omega arith)

pub returns-then-mask-gt31 : goal.returns-then-mask-gt31
returns-then-mask-gt31 c =
    let a = c.args in
    let large : 2 ^ 32 ≤ 2 ^ a.mask = pow_mono c.if-mask-gt31.true in
    uncut (repeats a.cm a.mask) (2 ^ a.mask) a.size (omega arith)

pub returns-then-repeats-period : goal.returns-then-repeats-period
returns-then-repeats-period c =
    let e = shifted c.args.mask (omega arith) in
    rw (e, ← c.repeats.ensures, rw e at c.if-repeats-period.true)

pub returns-else-repeats-period : goal.returns-else-repeats-period
returns-else-repeats-period c =
    let e = shifted c.args.mask (omega arith) in
    rw (← c.repeats.ensures, rw e at c.if-repeats-period.false)
