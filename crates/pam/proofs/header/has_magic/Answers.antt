-- `pam::header::has_magic` compares the first three bytes. Assumes nothing.
use mathlib.Core.Path.{◌∙◌}
use Rattle.rules.specs.Pam.{text}
use Rattle.pam.proofs.Texts.{starts_same}
use Rattle.pam.proofs.header.has_magic.Goals as goal

pub returns : goal.returns
unfolding text
returns c = c.starts_with.ensures.value ∙ starts_same (text "P7\n") _
