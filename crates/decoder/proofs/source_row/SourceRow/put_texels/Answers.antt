-- `decoder::source_row::SourceRow::put_texels` writes one texel after the other, each through the part that starts where the ones before it
-- end.
use Rattle.decoder.specs.Formats.{rule_of}
use Rattle.decoder.proofs.Formats.{rule_known}
use Rattle.decoder.proofs.Sources.{put-linear, row_parts}
use Rattle.rules.proofs.Parts.{begins, again, room}
use native.Mathlib.Omega.{arith}
use mathlib.Core.Path.{◌≡◌, refl}
use Rattle.decoder.proofs.source_row.SourceRow.put_texels.Goals as goal

pub loop-x-init : goal.loop-x-init
loop-x-init c =
    let s = c.args.self in
    (omega arith, begins (row_parts (rule_of s.format) s.palette s.source.now (rule_known s.format) 0 s.start) _, refl)

pub put_channels-requires : goal.put_channels-requires
put_channels-requires c =
    room 4 c.loop-x.x c.args.self.width c.loop-x.out (omega arith) (omega arith)

pub loop-x-preserved : goal.loop-x-preserved
loop-x-preserved c =
    let s = c.args.self in
    let known = rule_known s.format in
    let given = put-linear s.palette s.start c.loop-x.x s.source.now (rule_of s.format) _ known c.texel-channels.ensures in
    let put = rw given at c.put_channels.ensures in
    let row = row_parts (rule_of s.format) s.palette s.source.now known s.width s.start in
    let o = again row c.loop-x.x _ _ _ (omega arith) c.requires c.loop-x.invariant.1 put in
    (omega arith, o.0, o.1)

pub shape_of-out : goal.shape_of-out
shape_of-out c = c.loop-x.invariant.2

pub returns : goal.returns
returns c = let e : c.loop-x.x ≡ c.args.self.width = omega arith in rw (← e) c.loop-x.invariant.1
