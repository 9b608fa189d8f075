-- `reach::rejection::palette_reason` searches the palette where the mode has one.
use native.Mathlib.Omega.{arith}
use Rattle.reach.proofs.Asked.{no_palette}
use Rattle.reach.proofs.rejection.palette_reason.Goals as goal

pub returns : goal.returns
returns c = no_palette _ _ _ (omega arith)
