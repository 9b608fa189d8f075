-- Parts of the rules under names of their own, for the contracts of the crate's own functions.
use Rattle.std.specs.Prelude.{◌≡◌, Bool, List, ℕ, ◌*◌, ◌<◌, ◌≤◌, length, get_or, take}
use Rattle.rules.specs.Reading.{Reading, given, trail}
use Rattle.rules.specs.Tile.{Tile}
use Rattle.rules.specs.Picture.{address, index, entry_at}
use Rattle.decoder.specs.declared.load.Load.{Load}
use Rattle.decoder.specs.declared.palette.Entry.{Entry}
use Rattle.decoder.specs.declared.texel.Texel.{Texel}

-- an address with the byte that stands there
abbrev pub load_at : List ℕ → ℕ → Load
load_at bank a = record { at = a; byte = get_or bank a 0 }

-- a texel has the channels that a reading gives, and the addresses that it reads
pub record Decodes (r : Reading) (bank : List ℕ) (t : Texel) : Type 0 where
  pub channels : take (length (given r bank)) t.channels ≡ given r bank
  pub reads : take t.count t.reads ≡ trail r bank
  pub few : t.count ≤ 4
  pub full : length t.reads ≡ 4

-- an entry is the one that the index byte of a texel stands for
pub record EntryIs (t : Tile) (lane : ℕ) (odd : Bool) (rel x : ℕ) (bank : List ℕ) (e : Entry) : Type 0 where
  pub load : e.load ≡ load_at bank (address 2048 (8 * t.tmem_addr) odd rel)
  pub index : e.index ≡ index t x e.load.byte
  pub small : e.index < 256
  pub at : e.at ≡ entry_at e.index lane
  pub inside : e.at ≤ 4094
