-- `key::words::note_word` notes the word's bytes one after the other. Assumes nothing.
use mathlib.Core.Path.{◌≡◌}
use mathlib.Core.List.{[]}
use Prim.Native.Nat.{◌+◌, ◌*◌}
use Rattle.rules.specs.Reading.{trail, up_to}
use Rattle.key.specs.Notes.{noted}
use Rattle.key.specs.Words.{ask_one}
use Rattle.key.proofs.words.note_word.Given as goal

abbrev pub invariant-loop-k : goal.invariant-loop-k
invariant-loop-k g l =
    l.notes ≡ noted l.initial.notes (trail (up_to l.k (λ k. ask_one (8 * l.at + g.row.STEP * k))) [])
