-- `key::key::note_picture` notes by the whole tile's flag: a lookup, or the first 256 rows of what is visible, which read all of that.
-- Assumes nothing.
use mathlib.Core.Path.{sym, ◌∙◌}
use Rattle.rdp.specs.View.{tile_of}
use Rattle.key.proofs.Period.{lookup_notes, plain_notes}
use Rattle.key.proofs.key.note_picture.Goals as goal

pub returns-then-sampling : goal.returns-then-sampling
returns-then-sampling c =
    let p = c.args.picture in
    let flagged = sym c.from_tile-sampling.ensures.lookup_value ∙ c.if-sampling.true in
    lookup_notes (tile_of p.tile) p.tlut p.lane _ _ _ c.requires flagged c.note_lookup.ensures

pub returns : goal.returns
returns c =
    let p = c.args.picture in
    let flagged = sym c.from_tile-sampling.ensures.lookup_value ∙ c.if-sampling.false in
    plain_notes (tile_of p.tile) p.tlut p.lane _ _ _ c.requires _ c.visible.ensures flagged c.note_plain.ensures
