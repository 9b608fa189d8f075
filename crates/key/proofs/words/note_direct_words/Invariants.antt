-- `key::words::note_direct_words` notes its words one after the other. Assumes nothing.
use mathlib.Core.Path.{◌≡◌}
use mathlib.Core.List.{[]}
use Prim.Native.Nat.{◌+◌}
use Rattle.rules.specs.Reading.{trail, up_to}
use Rattle.key.specs.Notes.{noted}
use Rattle.key.specs.Words.{direct_word}
use Rattle.key.proofs.words.note_direct_words.Given as goal

abbrev pub invariant-loop-w : goal.invariant-loop-w
invariant-loop-w l =
    l.notes ≡ noted l.initial.notes (trail (up_to l.w (λ w. direct_word l.both (l.first + w))) [])
