-- `key::words::note_whole_words` notes the row's words, which read what their texels read. Assumes nothing.
use Rattle.rdp.specs.View.{tile_of}
use Rattle.key.proofs.WordLaws.{row_noted}
use Rattle.key.proofs.words.note_whole_words.Goals as goal

pub returns-clause-notes_after : goal.returns-clause-notes_after
returns-clause-notes_after c =
    let p = c.args.picture in
    rw c.row_words-row.ensures.first_value.1
    (row_noted (tile_of p.tile) p.tlut p.lane c.args.y _ _ _ _ c.if-picture-ge2.false p.pair_accepted
    (rw c.row_words-row.ensures.first_value.0 at c.note_direct_words.ensures))
