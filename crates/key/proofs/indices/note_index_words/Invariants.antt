-- `key::indices::note_index_words` notes its words one after the other. Assumes nothing.
use mathlib.Core.Path.{◌≡◌}
use mathlib.Core.List.{[]}
use Prim.Native.Nat.{◌+◌, ◌%◌}
use Rattle.rules.specs.Reading.{trail, up_to}
use Rattle.rdp.specs.View.{tile_of}
use Rattle.key.specs.Notes.{noted}
use Rattle.key.specs.Words.{index_word}
use Rattle.key.proofs.indices.note_index_words.Given as goal

abbrev pub invariant-loop-w : goal.invariant-loop-w
invariant-loop-w g l =
    let t = tile_of l.picture.tile in
    l.notes
    ≡ noted l.initial.notes (trail (up_to l.w (λ w. index_word g.row.STEP t l.picture.lane l.bank ((l.first + w) % 256))) [])
