-- `texdec::rgba16::rgba16_halves` is the table of the 5/5/5/1 halves: antt computes the rule over the table, once. Assumes nothing.
use mathlib.Core.Path.{refl}
use Rattle.rules.specs.Base.{tab, tab_from}
use Rattle.texdec.specs.Ready.{halves_of}
use Rattle.texdec.proofs.rgba16.rgba16_halves.Goals as goal

pub returns : goal.returns
unfolding halves_of tab tab_from
returns c = refl
