-- `key::indices::note_index_word` notes the entries byte by byte, and then the bytes. Assumes nothing.
use mathlib.Core.Path.{◌≡◌}
use mathlib.Core.List.{[]}
use Prim.Native.Nat.{◌+◌, ◌*◌}
use lib.ListN.{get_or}
use Rattle.rules.specs.Reading.{trail, up_to}
use Rattle.rdp.specs.View.{tile_of}
use Rattle.key.specs.Notes.{noted}
use Rattle.key.specs.Words.{entries_of}
use Rattle.key.proofs.indices.note_index_word.Given as goal

abbrev pub invariant-loop-k : goal.invariant-loop-k
invariant-loop-k g l =
    let t = tile_of l.picture.tile in
    l.notes
    ≡ noted l.initial.notes (trail (up_to l.k (λ k. entries_of t l.picture.lane (get_or l.bank (8 * l.at + g.row.STEP * k) 0))) [])
