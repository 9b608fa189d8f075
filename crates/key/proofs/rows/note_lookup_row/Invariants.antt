-- `key::rows::note_lookup_row` notes its row texel by texel: so far, what the first rel texels read. Assumes nothing.
use mathlib.Core.Path.{◌≡◌}
use Rattle.rules.specs.Reading.{trail, up_to}
use Rattle.rules.specs.Picture.{texel}
use Rattle.key.specs.Notes.{noted}
use Rattle.rdp.specs.View.{tile_of}
use Rattle.key.proofs.rows.note_lookup_row.Given as goal

abbrev pub invariant-loop-rel : goal.invariant-loop-rel
invariant-loop-rel l =
    let p = l.picture in
    l.notes
    ≡ noted l.initial.notes (trail (up_to l.rel (λ k. texel (tile_of p.tile) p.tlut p.lane l.odd k l.parity)) l.bank)
