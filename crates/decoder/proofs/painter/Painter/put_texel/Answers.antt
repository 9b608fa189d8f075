-- `decoder::painter::Painter::put_texel` writes the texel at its place, and its reads where it is observed.
use Rattle.rules.proofs.Formats.{accepted-known}
use Rattle.decoder.proofs.Placed.{put-given, put_reads, put_count}
use Rattle.decoder.specs.Rows.{four, placing, one_texel}
use Rattle.rdp.specs.View.{tile_of}
use Rattle.decoder.specs.Steps.{Decodes}
use Rattle.rules.specs.Picture.{texel, reads_each}
use Rattle.rules.specs.Reading.{given, trail}
use Rattle.rules.specs.Base.{over}
use lib.ListN.{take}
use mathlib.Core.Path.{◌≡◌}
use Rattle.decoder.proofs.painter.Painter.put_texel.Goals.{After-texel-texel}
use Rattle.decoder.proofs.painter.Painter.put_texel.Goals as goal

-- the texel is the rule's
decoded : (c : After-texel-texel) → let a = c.args in
    Decodes
    (texel (tile_of a.self.plan.picture.tile) a.self.plan.picture.tlut a.self.plan.picture.lane a.row.odd
    c.rel-rel.result c.x-x.result) a.self.bank.now c.texel-texel.result
decoded c = c.texel-texel.ensures

-- what it gives, tells and counts
texel-given : (c : After-texel-texel) → let a = c.args in
    four c.texel-texel.result.channels ≡ given (one_texel a.self.plan (placing a.row) a.i) a.self.bank.now
texel-given c =
    put-given _ _ _ _ _ _ _ _ _ c.rel-rel.ensures.value c.x-x.ensures (decoded c)
    (accepted-known _ _ _ c.args.self.plan.picture.pair_accepted)

texel-told : (c : After-texel-texel) → let a = c.args in
    take c.texel-texel.result.count c.texel-texel.result.reads
    ≡ trail (one_texel a.self.plan (placing a.row) a.i) a.self.bank.now
texel-told c = put_reads _ _ _ _ _ _ _ _ _ c.rel-rel.ensures.value c.x-x.ensures (decoded c)

texel-count : (c : After-texel-texel) → let a = c.args in
    c.texel-texel.result.count ≡ reads_each (tile_of a.self.plan.picture.tile) a.self.plan.picture.tlut
texel-count c =
    let a = c.args in
    put_count _ _ a.self.plan.picture.lane (placing a.row) a.i a.self.bank.now _ _ _
    c.rel-rel.ensures.value c.x-x.ensures (decoded c)

pub note_reads-requires : goal.note_reads-requires
note_reads-requires c =
    let t = decoded (goal.at.note_reads-requires c).After-texel-texel in
    let room = rw (c.args.self.plan.step_is, ← c.requires.observe_value, c.if-observe.true) at c.requires.step_in_bounds in
    record {
      count_bound = (t.few, t.full);
      count_in_bounds = rw (texel-count (goal.at.note_reads-requires c).After-texel-texel) room;
    }

pub returns-then-observe : goal.returns-then-observe
returns-then-observe c =
    let t = (goal.at.returns-then-observe c).After-texel-texel in
    record {
      out_after = rw (← texel-given t) c.put_channels.ensures;
      seen_after = rw (← c.requires.observe_value, c.if-observe.true, ← texel-told t) c.note_reads.ensures;
    }

pub returns-else-observe : goal.returns-else-observe
unfolding over
returns-else-observe c =
    record {
      out_after = rw (← texel-given (goal.at.returns-else-observe c).After-texel-texel) c.put_channels.ensures;
      seen_after = rw (← c.requires.observe_value, c.if-observe.false);
    }
