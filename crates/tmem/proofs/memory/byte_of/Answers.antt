-- `tmem::memory::byte_of` is one of a word's eight bytes. Assumes nothing.
use Rattle.tmem.proofs.EightBytes.{byte_shifted}
use Rattle.tmem.proofs.memory.byte_of.Goals as goal

pub returns : goal.returns
returns c = byte_shifted c.args.word c.args.k c.requires
