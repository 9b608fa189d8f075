-- `decoder::source_row::SourceRow::rgba32_texel` has the four bytes at its place. Assumes nothing.
use Rattle.decoder.proofs.Sources.{wide_there}
use Rattle.rules.specs.Linear.{linear_texel}
use Rattle.rules.specs.Reading.{given}
use Rattle.rules.specs.Texdec.{rgba32}
use native.Mathlib.Omega.{arith}
use mathlib.Core.Path.{refl}
use Rattle.decoder.proofs.source_row.SourceRow.rgba32_texel.Goals as goal

pub byte-r-requires : goal.byte-r-requires
byte-r-requires c = λ w.
    let s = c.args.self in
    wide_there rgba32 c.args.x s.width s.start _ c.requires.x_bound (rw (← c.requires.format_is) at (s.there w)) 4 0 _ refl
    (omega arith) (omega arith) (omega arith)

pub byte-g-requires : goal.byte-g-requires
byte-g-requires c = λ w.
    let s = c.args.self in
    wide_there rgba32 c.args.x s.width s.start _ c.requires.x_bound (rw (← c.requires.format_is) at (s.there w)) 4 1 _ refl
    (omega arith) (omega arith) (omega arith)

pub byte-b-requires : goal.byte-b-requires
byte-b-requires c = λ w.
    let s = c.args.self in
    wide_there rgba32 c.args.x s.width s.start _ c.requires.x_bound (rw (← c.requires.format_is) at (s.there w)) 4 2 _ refl
    (omega arith) (omega arith) (omega arith)

pub byte-a-requires : goal.byte-a-requires
byte-a-requires c = λ w.
    let s = c.args.self in
    wide_there rgba32 c.args.x s.width s.start _ c.requires.x_bound (rw (← c.requires.format_is) at (s.there w)) 4 3 _ refl
    (omega arith) (omega arith) (omega arith)

pub returns : goal.returns
unfolding linear_texel given
returns c =
    rw (← c.requires.format_is, c.byte-r.ensures, c.byte-g.ensures, c.byte-b.ensures, c.byte-a.ensures)
