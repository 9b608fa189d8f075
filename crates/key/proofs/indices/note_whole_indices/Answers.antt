-- `key::indices::note_whole_indices` notes nothing for format 1, else the row's words, which read what their texels read. Assumes nothing.
use mathlib.Core.Path.{refl}
use borrow.Author.Tests.{ne_eqb}
use Rattle.rules.specs.Reading.{trail, up_to}
use Rattle.rdp.specs.View.{tile_of}
use Rattle.key.specs.Notes.{noted}
use Rattle.key.proofs.IndexLaws.{index_row_noted, sparse_row_noted}
use Rattle.key.proofs.indices.note_whole_indices.Goals as goal

pub returns-then-picture-eq1-clause-notes_after : goal.returns-then-picture-eq1-clause-notes_after
unfolding noted trail up_to
returns-then-picture-eq1-clause-notes_after c = refl

pub returns-then-picture-ge2-clause-notes_after : goal.returns-then-picture-ge2-clause-notes_after
returns-then-picture-ge2-clause-notes_after c =
    let p = c.args.picture in
    rw c.row_words-row.ensures.first_value.1
    (sparse_row_noted (tile_of p.tile) p.tlut p.lane c.args.y _ _ _ _ c.requires (ne_eqb _ _ c.if-picture-eq1.false)
    c.if-picture-ge2.true (rw c.row_words-row.ensures.first_value.0 at c.note_index_words.ensures))

pub returns-else-picture-ge2-clause-notes_after : goal.returns-else-picture-ge2-clause-notes_after
returns-else-picture-ge2-clause-notes_after c =
    let p = c.args.picture in
    rw c.row_words-row.ensures.first_value.1
    (index_row_noted (tile_of p.tile) p.tlut p.lane c.args.y _ _ _ _ c.requires (ne_eqb _ _ c.if-picture-eq1.false)
    c.if-picture-ge2.false (rw c.row_words-row.ensures.first_value.0 at c.note_index_words-else-picture-ge2.ensures))
