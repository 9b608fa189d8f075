-- `decoder::source_row::SourceRow::pair_texel` has the rule's channels of the two bytes at its place. Assumes nothing.
use Rattle.decoder.proofs.Formats.{linear_two}
use Rattle.decoder.proofs.Sources.{wide_there}
use Rattle.decoder.specs.Formats.{rule_of}
use Rattle.rules.specs.Reading.{given}
use native.Mathlib.Omega.{arith}
use Rattle.decoder.proofs.source_row.SourceRow.pair_texel.Goals as goal

pub byte-hi-requires : goal.byte-hi-requires
byte-hi-requires c = λ w.
    let s = c.args.self in
    wide_there (rule_of s.format) c.args.x s.width s.start _ c.requires.x_bound (s.there w) 2 0 _ c.requires.reads
    (omega arith) (omega arith) (omega arith)

pub byte-lo-requires : goal.byte-lo-requires
byte-lo-requires c = λ w.
    let s = c.args.self in
    wide_there (rule_of s.format) c.args.x s.width s.start _ c.requires.x_bound (s.there w) 2 1 _ c.requires.reads
    (omega arith) (omega arith) (omega arith)

pub returns : goal.returns
unfolding given
returns c =
    let s = c.args.self in
    rw (linear_two _ _ _ s.format c.requires.reads, c.of_pair.ensures, c.byte-lo.ensures, c.byte-hi.ensures)
