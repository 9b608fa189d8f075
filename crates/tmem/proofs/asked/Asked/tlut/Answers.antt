-- `tmem::asked::Asked::tlut` picks by the rule's test. Assumes nothing.
use Rattle.tmem.proofs.asked.Asked.tlut.Goals as goal

pub returns-then-rows-image_siz : goal.returns-then-rows-image_siz
returns-then-rows-image_siz c = rw c.if-rows-image_siz.true

pub returns : goal.returns
returns c = rw c.if-rows-image_siz.false
