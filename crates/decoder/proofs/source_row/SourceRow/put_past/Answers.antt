-- `decoder::source_row::SourceRow::put_past` writes the row's first texel again and again: past the source's end all are the same.
use Rattle.decoder.specs.Formats.{rule_of}
use Rattle.decoder.proofs.Formats.{rule_known}
use Rattle.decoder.proofs.Sources.{put-linear, row_parts, past_gives}
use Rattle.rules.proofs.Parts.{begins, again, room}
use native.Mathlib.Omega.{arith}
use mathlib.Core.Path.{◌≡◌, refl, sym, ◌∙◌}
use Rattle.decoder.proofs.source_row.SourceRow.put_past.Goals as goal

pub loop-x-init : goal.loop-x-init
loop-x-init c =
    let s = c.args.self in
    (omega arith, begins (row_parts (rule_of s.format) s.palette s.source.now (rule_known s.format) 0 s.start) _, refl)

pub put_channels-requires : goal.put_channels-requires
put_channels-requires c =
    room 4 c.loop-x.x c.args.self.width c.loop-x.out (omega arith) (omega arith)

pub loop-x-preserved : goal.loop-x-preserved
loop-x-preserved c =
    let s = c.args.self in
    let x = c.loop-x.x in
    let f = rule_of s.format in
    let known = rule_known s.format in
    let same = past_gives s.palette s.start 0 s.source.now c.requires.past f
    ∙ sym (past_gives s.palette s.start x s.source.now c.requires.past f) in
    let given = put-linear s.palette s.start x s.source.now f _ known (c.texel-channels.ensures ∙ same) in
    let put = rw given at c.put_channels.ensures in
    let row = row_parts f s.palette s.source.now known s.width s.start in
    let o = again row x _ _ _ (omega arith) c.requires.in_bounds c.loop-x.invariant.1 put in
    (omega arith, o.0, o.1)

pub shape_of-out : goal.shape_of-out
shape_of-out c = c.loop-x.invariant.2

pub returns : goal.returns
returns c = let e : c.loop-x.x ≡ c.args.self.width = omega arith in rw (← e) c.loop-x.invariant.1
