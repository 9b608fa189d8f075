-- The key: the bank with every byte that its visible picture reads kept and all others zero.
use Rattle.std.specs.Prelude.{cond, List, ℕ, ◌-◌, ◌*◌, ◌<◌, get_or, set, take, drop}
use Rattle.rules.specs.Base.{tab, mem, distinct}
use Rattle.rules.specs.Reading.{Reading, trail}
use Rattle.rules.specs.Tile.{Tile, bank_size}
use Rattle.rules.specs.Picture.{visible_picture}

-- the bank with the addresses of a list kept, and all others zero
unfoldable pub kept : List ℕ → List ℕ → List ℕ
kept l bank = tab bank_size (λ a. cond (mem a l) (get_or bank a 0) 0)

-- the key that a reading cuts
unfoldable pub key_of : Reading → List ℕ → List ℕ
key_of r bank = kept (trail r bank) bank

-- "The key is cut from the picture the flag calls for"; "over this visible picture"
unfoldable pub key : Tile → ℕ → ℕ → List ℕ → List ℕ
key t mode lane bank = key_of (visible_picture t mode lane) bank

-- "its kept count: the number of distinct addresses that picture reads"
unfoldable pub kept_count : Tile → ℕ → ℕ → List ℕ → ℕ
kept_count t mode lane bank = distinct bank_size (trail (visible_picture t mode lane) bank)

-- "flipping all eight bits of any one kept byte"
unfoldable pub flipped : ℕ → List ℕ → List ℕ
flipped a bank = set bank a (255 - get_or bank a 0)

-- texel i of a picture: its four channels
unfoldable pub texel_at : ℕ → List ℕ → List ℕ
texel_at i picture = take 4 (drop (4 * i) picture)

-- every element is a byte
unfoldable pub Bytes : List ℕ → Type 0
Bytes l = (i : ℕ) → get_or l i 0 < 256
