-- A kind of texels is that of a tile in a mode, and its table is the kind's.
use Rattle.std.specs.Prelude.{◌≡◌, List, ℕ, ◌<◌, ◌≤◌}
use Rattle.std.proofs.Props.{props}
use Rattle.rules.specs.Tile.{Tile}
use Rattle.rules.specs.Texdec.{rgba16, ia4, ia8, format_of, index_part, rgba16_texel, ia8_table}
use Rattle.texdec.specs.Ready.{ia4_table, halves_of}
use Rattle.decoder.specs.Formats.{rule_of, part_number}
use Rattle.decoder.specs.Tables.{entry_format, EntryTable}
use Rattle.rdp.specs.View.{tile_of}
use Rattle.decoder.specs.declared.plan.Plan.{Plan}
use Rattle.decoder.specs.declared.kind.Kind.{Kind}
use Rattle.decoder.specs.declared.kind.Kind.TheVariants.{Direct, Rgba16By, Ia4By, Ia8By, Entry, EntryBy, HalvesBy}

abbrev pub IsKind : Tile → ℕ → ℕ → List ℕ → Kind → Type 0
IsKind t mode lane bank (Direct f) = (mode < 2) × (rule_of f ≡ format_of t.fmt t.siz)
IsKind t mode lane bank (Rgba16By h) = (mode < 2) × (rgba16 ≡ format_of t.fmt t.siz) × (h.now ≡ halves_of rgba16_texel)
IsKind t mode lane bank (Ia4By b) = (mode < 2) × (ia4 ≡ format_of t.fmt t.siz) × (b.now ≡ ia4_table)
IsKind t mode lane bank (Ia8By b) = (mode < 2) × (ia8 ≡ format_of t.fmt t.siz) × (b.now ≡ ia8_table)
IsKind t mode lane bank (Entry p) = (2 ≤ mode) × (part_number p ≡ index_part t.fmt t.siz)
IsKind t mode lane bank (EntryBy p b) =
    (2 ≤ mode) × (part_number p ≡ index_part t.fmt t.siz) × EntryTable t mode lane bank b.now
IsKind t mode lane bank (HalvesBy h) = (2 ≤ mode) × (32 ≡ index_part t.fmt t.siz) × (h.now ≡ halves_of (entry_format mode))

-- it is so in one way
pub IsKind-prop : (t : Tile) (mode lane : ℕ) (bank : List ℕ) (k : Kind) → IsProp (IsKind t mode lane bank k)
IsKind-prop t mode lane bank (Direct f) = Prim.hlevel props
IsKind-prop t mode lane bank (Rgba16By h) = Prim.hlevel props
IsKind-prop t mode lane bank (Ia4By b) = Prim.hlevel props
IsKind-prop t mode lane bank (Ia8By b) = Prim.hlevel props
IsKind-prop t mode lane bank (Entry p) = Prim.hlevel props
IsKind-prop t mode lane bank (EntryBy p b) = Prim.hlevel props
IsKind-prop t mode lane bank (HalvesBy h) = Prim.hlevel props

-- the same of a plan's tile, mode and lane
abbrev pub PaintsBy : Plan → List ℕ → Kind → Type 0
PaintsBy p bank k = IsKind (tile_of p.picture.tile) p.picture.tlut p.picture.lane bank k

pub PaintsBy-prop : (p : Plan) (bank : List ℕ) (k : Kind) → IsProp (PaintsBy p bank k)
PaintsBy-prop p bank k = IsKind-prop (tile_of p.picture.tile) p.picture.tlut p.picture.lane bank k
