-- Demand 3 at each record: a key's record that is not refused, after any records of a replay, prints the kept count of the bank as it
-- stands, changes nothing, and demand 3's theorems hold of that bank.
use mathlib.Core.Path.{◌≡◌, sym, ◌∙◌}
use mathlib.Core.Bool.{true, cond}
use mathlib.Core.List.{List, [], ◌∷◌}
use mathlib.Core.Logic.{◌↔◌}
use Prim.Native.Nat.{ℕ, ◌<◌}
use lib.ListN.{length, get_or}
use Rattle.rules.specs.Base.{mem, distinct}
use Rattle.rules.specs.Tile.{Tile}
use Rattle.rules.specs.Sampling.{visible_texels}
use Rattle.rules.specs.Reading.{given, trail, Agree}
use Rattle.rules.specs.Picture.{visible_picture}
use Rattle.rules.specs.Key.{key, kept_count, flipped, Bytes}
use Rattle.rules.specs.Refusal.{first}
use Rattle.rules.specs.Replay.{lane_in, tile_in, mode_in, asks_key, record_tests, Carried, fresh, in_file, line_in, onward, replayed}
use Rattle.rules.proofs.Allowed.{Allowed, allowed}
use Rattle.rules.proofs.Maps.{Below}
use Rattle.rules.proofs.Replay.{Sound, fresh_sound, stands, refusal_of, key_keeps as nothing_changes, key_line}
use Rattle.rules.proofs.ReplayTests.{step_passed, key_passes}
use Rattle.key.proofs.Demand3.{key_keeps, count_keeps, key-same-picture, key_own_key, equal_keys, Changed, flip_changes}

module _ (file : List ℕ) (bytes : Bytes file) (before : List (List ℕ)) (r : List ℕ) (asks : asks_key r ≡ true) where
  -- what stands before the record
  abbrev here : Carried
  here = replayed (in_file file) before fresh

  abbrev tile : Tile
  tile = tile_in r

  abbrev mode : ℕ
  mode = mode_in r

  abbrev lane : ℕ
  lane = lane_in r

  sound : Sound here
  sound = stands file before fresh bytes fresh_sound

  pub carries_on : onward (in_file file r here) ≡ here
  unfolding in_file
  carries_on = nothing_changes (length file) _ r here asks

  module _ (done : (in_file file r here).refusal ≡ 0) where
    none : first (record_tests (length file) r) ≡ 0
    unfolding in_file
    none = (step_passed (length file) r here.last (sym (refusal_of (length file) _ r here) ∙ done)).0

    is_allowed : Allowed tile mode lane
    is_allowed = allowed tile mode lane (key_passes (length file) r none asks)

    pub line_is : line_in (in_file file r here) ≡ 0 ∷ kept_count tile mode lane here.bank ∷ []
    unfolding in_file
    line_is = key_line (length file) _ r here asks done

    pub counts : (kept_count tile mode lane here.bank ≡ distinct 4096 (trail (visible_picture tile mode lane) here.bank))
        × Below 4096 (trail (visible_picture tile mode lane) here.bank)
    counts = count_keeps tile mode lane here.bank is_allowed.inside.palette is_allowed.lane_le sound.bytes

    pub keeps : (length (key tile mode lane here.bank) ≡ 4096)
        × ((a : ℕ) → get_or (key tile mode lane here.bank) a 0
        ≡ cond (mem a (trail (visible_picture tile mode lane) here.bank)) (get_or here.bank a 0) 0)
    keeps = key_keeps tile mode lane here.bank sound.bank_size

    pub same-picture : (given (visible_picture tile mode lane) (key tile mode lane here.bank)
        ≡ given (visible_picture tile mode lane) here.bank)
        × (trail (visible_picture tile mode lane) (key tile mode lane here.bank) ≡ trail (visible_picture tile mode lane) here.bank)
        × (kept_count tile mode lane (key tile mode lane here.bank) ≡ kept_count tile mode lane here.bank)
    same-picture = key-same-picture tile mode lane here.bank sound.bank_size

    pub own_key : key tile mode lane (key tile mode lane here.bank) ≡ key tile mode lane here.bank
    own_key = key_own_key tile mode lane here.bank sound.bank_size

    pub equal : (other : List ℕ) → length other ≡ 4096
        → (key tile mode lane here.bank ≡ key tile mode lane other)
        ↔ Agree (trail (visible_picture tile mode lane) here.bank) here.bank other
    equal other n = equal_keys tile mode lane here.bank other sound.bank_size n

    pub flips : (a : ℕ) → mode < 2 → mem a (trail (visible_picture tile mode lane) here.bank) ≡ true
        → Changed (visible_texels tile mode) (visible_picture tile mode lane) (flipped a here.bank) here.bank
    flips a h = flip_changes tile mode lane here.bank a h is_allowed.pair sound.bank_size sound.bytes
