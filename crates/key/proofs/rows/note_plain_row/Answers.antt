-- `key::rows::note_plain_row` notes its row's whole words, and the rest of it texel by texel: so far, what the first x texels read.
-- Assumes nothing.
use mathlib.Core.Path.{◌≡◌, ◌∙◌}
use native.Mathlib.Omega.{arith}
use Rattle.rules.specs.Picture.{plain_row}
use Rattle.key.proofs.Notes.{noted_more}
use Rattle.key.proofs.rows.note_plain_row.Goals as goal

pub loop-x-preserved : goal.loop-x-preserved
loop-x-preserved c = λ s e. rw noted_more (c.note_texel.ensures ∙ rw (c.column.ensures, ← c.loop-x.invariant s e))

pub returns : goal.returns
unfolding plain_row
returns c =
    let e : c.loop-x.x ≡ c.args.picture.tile.width = omega arith in
    let start = c.row_start-start.ensures in
    rw (← start) (rw e at (c.loop-x.invariant _ (rw (← start) at c.note_whole_words-from.ensures.notes_after)))
