-- `key::rows::note_plain` notes its rows one after the other, 256 of them at most. Assumes nothing.
use mathlib.Core.Path.{◌≡◌}
use Rattle.rules.specs.Reading.{trail, up_to}
use Rattle.rules.specs.Picture.{plain_row}
use Rattle.key.specs.Notes.{noted}
use Rattle.rdp.specs.View.{tile_of}
use Rattle.key.proofs.rows.note_plain.Given as goal

abbrev pub invariant-loop-y : goal.invariant-loop-y
invariant-loop-y l =
    l.notes ≡ noted l.initial.notes (trail (up_to l.y (plain_row (tile_of l.picture.tile) l.picture.tlut l.picture.lane)) l.bank)
