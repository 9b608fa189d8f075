-- `reach::lane::write_lanes` writes byte after byte: the bytes below i are those of the lane map.
use Rattle.std.proofs.Common.{◌≡◌, length, take}
use Rattle.rules.specs.Base.{tab}
use Rattle.rules.specs.Tile.{lane_map_size}
use Rattle.reach.specs.Slots.{slots_byte}
use Rattle.reach.proofs.lane.write_lanes.Given as goal

abbrev pub invariant-loop-i : goal.invariant-loop-i
invariant-loop-i l = record { map_len : length l.map ≡ lane_map_size; written : take l.i l.map ≡ tab l.i (slots_byte l.bank) }
