-- `texdec::ia8::ia8_table` is the table of the IA8 texels: antt computes the rule over the table, once. Assumes nothing.
use mathlib.Core.Path.{refl}
use Rattle.rules.specs.Base.{tab, tab_from}
use Rattle.rules.specs.Texdec.{ia8_table}
use Rattle.texdec.proofs.ia8.ia8_table.Goals as goal

pub returns : goal.returns
unfolding ia8_table tab tab_from
returns c = refl
