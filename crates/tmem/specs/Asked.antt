-- The loads as one, by what is asked: it only names what the rules say of each.
use Rattle.std.specs.Prelude.{Bool, cond, List, ℕ}
use Rattle.rules.specs.Tile.{Tile}
use Rattle.rules.specs.Refusal.{Outcome}
use Rattle.rules.specs.Load.{Store, LoadTile, load_tile, block_stores, tile_stores, hardware_stores, row_stores, by_hardware, Reason}
use Rattle.rules.specs.Calls.{block_outside, tile_load_outside, tlut_outside, hardware_outside, load_tests, loaded}
use Rattle.tmem.specs.declared.asked.Asked.{Asked}
use Rattle.tmem.specs.declared.asked.Asked.TheVariants.{Block, Tile as TileLoad, TlutHardware, TlutRows}

-- a number is outside its range
abbrev pub asked_outside : ℕ → Asked → Bool
asked_outside image (Block dxt words) = block_outside dxt words
asked_outside image (TileLoad rows words stride) = tile_load_outside rows words stride
asked_outside image (TlutHardware count rows stride) = hardware_outside image count rows stride
asked_outside image (TlutRows count rows stride) = tlut_outside count rows stride

-- the stores, in order
abbrev pub asked_stores : LoadTile → ℕ → Asked → List Store
asked_stores t image (Block dxt words) = block_stores t image dxt words
asked_stores t image (TileLoad rows words stride) = tile_stores t image rows words stride
asked_stores t image (TlutHardware count rows stride) = hardware_stores t image count
asked_stores t image (TlutRows count rows stride) = row_stores t count rows stride

-- which of the two loads of a table document 01's rule picks
abbrev pub picked : ℕ → ℕ → ℕ → ℕ → Asked
picked image count rows stride = cond (by_hardware image rows) (TlutHardware count rows stride) (TlutRows count rows stride)

-- the call
abbrev pub asked_call : List ℕ → List ℕ → List ℕ → List ℕ → Tile → ℕ → Asked → Reason → ℕ → Outcome
asked_call bank map reasons src t image asked why last =
    loaded (load_tests bank map reasons src t image (asked_outside image asked) why last) (asked_stores (load_tile t) image asked)
    bank map reasons src why last
