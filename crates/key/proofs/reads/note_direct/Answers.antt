-- `key::reads::note_direct` notes what the pair's texel reads: the laws of `Notes` by the number of its bytes. Assumes nothing.
use mathlib.Core.Path.{◌≡◌, refl}
use mathlib.Core.Bool.{true}
use Rattle.rules.specs.Texdec.{accepted_direct}
use Rattle.rules.proofs.Formats.{accepted-direct}
use Rattle.key.proofs.Notes.{four-noted, one-noted, two-noted}
use Rattle.key.proofs.reads.note_direct.Goals.{Start}
use Rattle.key.proofs.reads.note_direct.Goals as goal

-- the pair is accepted in a mode without the lookup table
direct_pair : (c : Start) → accepted_direct c.args.picture.tile.fmt c.args.picture.tile.siz ≡ true
direct_pair c = accepted-direct _ _ _ c.requires.direct_mode c.args.picture.pair_accepted

pub returns-then-tile : goal.returns-then-tile
returns-then-tile c =
    rw (← c.bytes-base.ensures)
    (four-noted _ _ _ _ _ _ _ _ (direct_pair (goal.at.returns-then-tile c).Start) c.placed-low.ensures c.placed-next.ensures _ _
    c.if-tile.true c.note_two.ensures c.note_two-then-tile.ensures _)

pub returns-then-tile-lt2 : goal.returns-then-tile-lt2
returns-then-tile-lt2 c =
    rw (← c.bytes-base.ensures)
    (one-noted _ _ _ _ _ _ _ _ (direct_pair (goal.at.returns-then-tile-lt2 c).Start) c.placed-at.ensures refl c.if-tile.false
    c.if-tile-lt2.true _)

pub returns : goal.returns
returns c =
    rw (← c.bytes-base.ensures)
    (two-noted _ _ _ _ _ _ _ _ (direct_pair (goal.at.returns c).Start) c.placed-at.ensures c.placed-next-2.ensures _
    c.if-tile.false c.if-tile-lt2.false c.note_two-2.ensures _)
