-- `pam::header::read_header` reads lines after the first. Assumes nothing.
use mathlib.Core.Path.{sym, ◌∙◌}
use Rattle.pam.proofs.Headers.{magic_long}
use Rattle.pam.proofs.header.read_header.Goals as goal

pub read_lines-requires : goal.read_lines-requires
read_lines-requires c = magic_long c.args.file.now (sym c.has_magic.ensures ∙ c.if-not-has_magic.false)
