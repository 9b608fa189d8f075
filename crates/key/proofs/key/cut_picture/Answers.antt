-- `key::key::cut_picture` cuts by the notes of the picture, made where nothing was noted. Assumes nothing.
use Rattle.rules.specs.Key.{key, key_of, kept_count}
use Rattle.key.proofs.Notes.{note_small}
use Rattle.key.proofs.key.cut_picture.Goals as goal

pub cut-requires : goal.cut-requires
cut-requires c = record { by_index = note_small _ _ c.note_picture.array_long c.note_picture.ensures }

pub returns : goal.returns
unfolding key key_of kept_count
returns c =
    let done = c.cut.ensures _ c.note_picture.ensures in
    record { key_value = done.0; count_value = done.1 }
