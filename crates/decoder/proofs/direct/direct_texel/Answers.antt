-- `decoder::direct::direct_texel` is what the function of its format's reads ensures. Assumes nothing.
use Rattle.decoder.proofs.Formats.{only_rgba32}
use native.Mathlib.Omega.{arith}
use Rattle.decoder.proofs.direct.direct_texel.Goals as goal

pub returns-in_default : goal.returns-in_default
returns-in_default c = rw (← only_rgba32 c.args.format (omega arith) (omega arith)) c.rgba32_texel.ensures
