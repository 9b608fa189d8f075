-- `decoder::source_row::SourceRow::put_pairs` writes one pair of texels after the other, each through the part that starts where the ones
-- before it end.
use Rattle.decoder.specs.Formats.{rule_of}
use Rattle.decoder.proofs.Formats.{rule_known}
use Rattle.decoder.proofs.Sources.{put-linear, put_both, pair_parts}
use Rattle.rules.proofs.Parts.{begins, again, room}
use native.Mathlib.Omega.{arith}
use Prim.Native.Nat.{◌+◌, ◌*◌, ◌/◌}
use mathlib.Core.Path.{◌≡◌, refl}
use Rattle.decoder.proofs.source_row.SourceRow.put_pairs.Goals as goal

pub loop-k-init : goal.loop-k-init
loop-k-init c =
    let s = c.args.self in
    (omega arith, begins (pair_parts (rule_of s.format) s.palette s.source.now (rule_known s.format) 0 s.start) _, refl)

pub put_two-requires : goal.put_two-requires
put_two-requires c =
    room 8 c.loop-k.k (c.args.self.width / 2) c.loop-k.out (omega arith) (omega arith)

pub loop-k-preserved : goal.loop-k-preserved
loop-k-preserved c =
    let s = c.args.self in
    let f = rule_of s.format in
    let k = c.loop-k.k in
    let known = rule_known s.format in
    let first = put-linear s.palette s.start (2 * k) s.source.now f _ known c.byte_texel-first.ensures in
    let second = put-linear s.palette s.start (2 * k + 1) s.source.now f _ known c.byte_texel-second.ensures in
    let put = put_both _ _ c.byte_texel-first.result c.byte_texel-second.result first second c.put_two.ensures in
    let row = pair_parts f s.palette s.source.now known (s.width / 2) s.start in
    let o = again row k _ _ _ (omega arith) (omega arith) c.loop-k.invariant.1 put in
    (omega arith, o.0, o.1)

pub shape_of-out : goal.shape_of-out
shape_of-out c = c.loop-k.invariant.2

pub returns : goal.returns
returns c = let e : 2 * c.loop-k.k ≡ c.args.self.width = omega arith in rw (← e) c.loop-k.invariant.1
