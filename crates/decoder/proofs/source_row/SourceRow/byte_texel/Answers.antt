-- `decoder::source_row::SourceRow::byte_texel` has the rule's channels of the byte at its place. Assumes nothing.
use Rattle.decoder.proofs.Formats.{linear_one}
use Rattle.decoder.proofs.Sources.{byte_there}
use Rattle.decoder.specs.Formats.{rule_of}
use Rattle.rules.specs.Reading.{given}
use native.Mathlib.Omega.{arith}
use Rattle.decoder.proofs.source_row.SourceRow.byte_texel.Goals as goal

pub overflow_add-self : goal.overflow_add-self
overflow_add-self c = omega (arith, c.args.self.near, c.byte_of.ensures.upper_bound, c.requires.x_bound)

pub byte-byte-requires : goal.byte-byte-requires
byte-byte-requires c = λ w.
    let s = c.args.self in
    rw c.byte_of.ensures.value
    (byte_there (rule_of s.format) c.args.x s.width s.start _ c.requires.x_bound (s.there w) c.requires.reads)

pub returns : goal.returns
unfolding given
returns c =
    let s = c.args.self in
    rw (linear_one _ _ _ s.format c.requires.reads, c.of_byte.ensures, c.byte-byte.ensures, c.byte_of.ensures.value)
