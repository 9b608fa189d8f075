-- `pam::word::is_same` compares the bytes. Assumes nothing.
use mathlib.Core.Path.{◌∙◌}
use Rattle.pam.proofs.Texts.{bytes_same}
use Rattle.pam.proofs.word.is_same.Goals as goal

pub returns : goal.returns
returns c = c.eq.ensures ∙ bytes_same c.args.s.now c.args.t.now
