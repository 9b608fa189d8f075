-- `texdec::format::FormatInfo::validate_tlut` is the rule's test: its last part is what `validate` says. Assumes nothing.
use Rattle.rules.specs.Texdec.{accepted}
use Rattle.texdec.proofs.format.FormatInfo.validate_tlut.Goals as goal

pub returns : goal.returns
unfolding accepted
returns c = rw c.validate.ensures
