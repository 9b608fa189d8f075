-- `key::cut::cut` cuts the key part by part: so far, the key's first parts and their count, for whatever list the notes are of.
-- Assumes nothing.
use mathlib.Core.Path.{◌≡◌, refl, sym, ◌∙◌}
use Prim.Native.Nat.{◌*◌}
use native.Mathlib.Omega.{arith}
use lib.Seq.{take_all}
use Rattle.rules.specs.Base.{tab, tab_from, distinct}
use Rattle.rules.specs.Key.{kept}
use Rattle.key.specs.Notes.{KeySoFar}
use Rattle.key.proofs.cut.cut.Goals as goal

pub loop-part-init : goal.loop-part-init
unfolding tab tab_from distinct KeySoFar
loop-part-init c = record { whole = omega arith; few = omega arith; so_far = λ l n. (refl, refl) }

pub returns : goal.returns
unfolding kept KeySoFar
returns c l n =
    let e : 64 * c.loop-part.part ≡ 4096 = omega arith in
    let d = rw e at (c.loop-part.invariant.so_far l n) in
    (sym (take_all 4096 c.loop-part.key (omega arith)) ∙ d.0, d.1)
