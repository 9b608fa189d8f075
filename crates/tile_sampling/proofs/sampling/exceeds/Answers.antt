-- `tile_sampling::sampling::exceeds` compares the size with 2^mask: above 31 it exceeds every number of 32 bits, and up
-- to 31 the shift loses nothing. Assumes nothing.
use mathlib.Core.Path.{sym}
use Prim.Native.Nat.{ℕ, ◌<◌, ◌≤◌, ◌^◌, ◌*◌, ◌%◌, max}
use native.Mathlib.Omega.{arith}
use lib.Pow.{pow_mono}
use borrow.Author.Tests.{lt-ltb}
use Rattle.rules.proofs.Computed.{agree_below}
use Rattle.tile_sampling.proofs.sampling.exceeds.Goals as goal

pub returns-then-mask-gt31 : goal.returns-then-mask-gt31
returns-then-mask-gt31 c =
    let large : 2 ^ 32 ≤ 2 ^ c.args.mask = pow_mono c.if-mask-gt31.true in
    let h : max c.args.size 1 < 2 ^ c.args.mask = omega arith in
    sym (lt-ltb _ _ h)

pub returns : goal.returns
returns c =
    let mask : ℕ = c.args.mask in
    rw (c.max.ensures, agree_below 32 (λ k. 1 * 2 ^ k % 4294967296) (λ k. 2 ^ k) tt mask (omega arith))
