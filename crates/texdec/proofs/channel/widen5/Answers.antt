-- `texdec::channel::widen5` is the rule: five bits moved up by three still fit a byte. Assumes nothing.
use mathlib.Core.Path.{◌≡◌}
use Prim.Native.Nat.{◌*◌, ◌%◌}
use native.Mathlib.Omega.{arith}
use Rattle.texdec.proofs.channel.widen5.Goals as goal

pub returns : goal.returns
returns c = let h : c.args.c * 8 % 256 ≡ c.args.c * 8 = omega arith in rw h
