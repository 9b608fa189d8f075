-- `texdec::ia4::ia4_table` is the table of the IA4 texels: antt computes the rule over the table, once. Assumes nothing.
use mathlib.Core.Path.{refl}
use Rattle.rules.specs.Base.{tab, tab_from}
use Rattle.texdec.specs.Ready.{ia4_table}
use Rattle.texdec.proofs.ia4.ia4_table.Goals as goal

pub returns : goal.returns
unfolding ia4_table tab tab_from
returns c = refl
