-- `key::rows::note_plain_row` notes its row's whole words, and the rest of it texel by texel: so far, what the first x texels read.
-- Assumes nothing.
use mathlib.Core.Path.{◌≡◌}
use mathlib.Core.List.{List}
use Prim.Native.Nat.{ℕ, ◌+◌}
use Rattle.rules.specs.Reading.{Reading, trail, up_to}
use Rattle.rules.specs.Picture.{texel, column}
use Rattle.key.specs.Notes.{noted}
use Rattle.rdp.specs.View.{tile_of}
use Rattle.key.proofs.rows.note_plain_row.Given as goal

abbrev pub invariant-loop-x : goal.invariant-loop-x
invariant-loop-x l =
    let t = tile_of l.picture.tile in
    let row : ℕ → Reading = λ n. up_to n (λ x. texel t l.picture.tlut l.picture.lane l.odd (l.start + column t l.picture.tlut x) x) in
    (s : List ℕ) → l.initial.notes ≡ noted s (trail (row l.from) l.bank) → l.notes ≡ noted s (trail (row l.x) l.bank)
