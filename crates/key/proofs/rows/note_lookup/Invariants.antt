-- `key::rows::note_lookup` notes every index byte, or its four rows one after the other. Assumes nothing.
use mathlib.Core.Path.{◌≡◌}
use Rattle.rules.specs.Reading.{trail, up_to}
use Rattle.rules.specs.Picture.{lookup_row}
use Rattle.key.specs.Notes.{noted}
use Rattle.rdp.specs.View.{tile_of}
use Rattle.key.proofs.rows.note_lookup.Given as goal

abbrev pub invariant-loop-r : goal.invariant-loop-r
invariant-loop-r l =
    l.notes ≡ noted l.initial.notes (trail (up_to l.r (lookup_row (tile_of l.picture.tile) l.picture.tlut l.picture.lane)) l.bank)
