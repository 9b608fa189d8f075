-- `decoder::direct::rgba32_texel` has the rule's four bytes and their addresses, by what each load ensures. Assumes nothing.
use Rattle.rules.specs.Picture.{direct}
use Rattle.rules.specs.Reading.{given, trail}
use native.Mathlib.Omega.{arith}
use native.Mathlib.Nat.{add-zero}
use mathlib.Core.Path.{refl}
use Rattle.decoder.proofs.direct.rgba32_texel.Goals as goal

pub returns : goal.returns
unfolding direct given trail
returns c =
    simp (
      c.load_half-r.ensures,
      c.load_half-g.ensures,
      c.load_half-b.ensures,
      c.load_half-a.ensures,
      add-zero,
    )
    (record { channels = refl; reads = refl; few = omega arith; full = refl })
