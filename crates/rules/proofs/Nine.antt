-- Document 02's item 10: "remove the number from the table, the order and the exported answers. Number 9 is not given out again." It was
-- that of a pair that the texel step does not know, and each accepted pair is known: `accepted-known` of Formats. Here: no call answers 9.
use mathlib.Core.Path.{◌≡◌, refl, sym, ◌∙◌}
use mathlib.Core.Bool.{Bool, true, false, cond}
use mathlib.Core.List.{List, [], ◌∷◌, ◌++◌}
use Prim.Native.Nat.{ℕ}
use native.Mathlib.Omega.{arith}
use Rattle.rules.specs.Tile.{Tile}
use Rattle.rules.specs.Load.{Reason}
use Rattle.rules.specs.Refusal.{Test, Outcome, call, call_or}
use Rattle.rules.specs.Calls.{block_call, tile_call, tlut_hardware_call, tlut_rows_call, sampling_call, reach_call, has_load_call}
use Rattle.rules.specs.Calls.{rejection_call, lane_call, picture_call, observed_call, sample_tile_call, sample_tile_observed_call}
use Rattle.rules.specs.Calls.{sampling_lookup_call, sampling_lookup_observed_call, linear_call, key_call, check_call}
use Rattle.rules.specs.Check.{checked}
use Rattle.rules.specs.Lister.{line_to, line_of, number_call, list_call}
use Rattle.rules.specs.Replay.{asks_key, record_tests, Carried, Piece, tested, outcome, replay_call, run_call}
use Rattle.rules.specs.Pam.{pam_write_call, pam_read_call}
use Rattle.rules.specs.Split.{split_call}
use Rattle.rules.proofs.Refused.{lacks, without, first_never, call_or_refusal}
use Rattle.rules.proofs.ReplayTests.{key_tests_in, load_tests_in}

abbrev pub Nineless : Outcome → Type 0
Nineless o = o.refusal ≡ 9 → ⊥

-- a call none of whose tests has the number
nineless : (tests : List Test) (numbers instead : List ℕ) (left lent : List (List ℕ)) → lacks 9 tests ≡ true
    → Nineless (call_or tests numbers instead left lent)
nineless tests numbers instead left lent k e =
    first_never 9 tests (λ z. omega arith) (without 9 tests k) (sym (call_or_refusal tests numbers instead left lent) ∙ e)

-- the tests of a replay's record, a key's or a load's, with others after them
record_lacks : (end : ℕ) (r : List ℕ) (l : List Test) → lacks 9 l ≡ true → lacks 9 (record_tests end r ++ l) ≡ true
unfolding record_tests
record_lacks end r l h = go (asks_key r)
  where
    go : (b : Bool) → lacks 9 (cond b (key_tests_in end r) (load_tests_in end r) ++ l) ≡ true
    go true = h
    go false = h

-- Every call, on every input: the loads, ordinary and rejected; what is asked of a tile or a bank; the pictures, the linear decoding, the
-- key and the check of one; a line of the lister, a number and the listing; a record in a run of a replay and alone, and the run; picture
-- files; the split.
module _ (bank map reasons src : List ℕ) (t : Tile) (image dxt words rows stride count : ℕ) (why : Reason) (last mode lane : ℕ)
    (out seen picture file entries input r part : List ℕ) (n after at w h end : ℕ) (m : Carried) (p : Piece) where
  pub no_nine : Nineless (block_call bank map reasons src t image dxt words why last)
      × Nineless (tile_call bank map reasons src t image rows words stride why last)
      × Nineless (tlut_hardware_call bank map reasons src t image count rows stride why last)
      × Nineless (tlut_rows_call bank map reasons src t image count rows stride why last)
      × Nineless (sampling_call t mode)
      × Nineless (reach_call t mode map)
      × Nineless (has_load_call t mode map)
      × Nineless (rejection_call t mode reasons)
      × Nineless (lane_call bank map)
      × Nineless (sample_tile_call bank t mode lane out)
      × Nineless (sample_tile_observed_call bank t mode lane out seen)
      × Nineless (sampling_lookup_call bank t mode lane out)
      × Nineless (sampling_lookup_observed_call bank t mode lane out seen)
      × Nineless (linear_call src t stride out)
      × Nineless (key_call bank t mode lane out)
      × Nineless (check_call bank t mode lane out)
      × Nineless (line_of t mode bank)
      × Nineless (number_call n after out at)
      × Nineless (list_call input out)
      × Nineless (outcome end part r m)
      × Nineless (replay_call m r end part)
      × Nineless (run_call m input p out)
      × Nineless (pam_write_call w h picture file)
      × Nineless (pam_read_call file picture)
      × Nineless (split_call count entries out)
  unfolding call call_or block_call tile_call tlut_hardware_call tlut_rows_call sampling_call reach_call has_load_call rejection_call
      lane_call
      picture_call observed_call linear_call key_call check_call checked line_to number_call list_call tested outcome replay_call run_call
      pam_write_call pam_read_call split_call
  no_nine = (
    nineless _ _ _ _ _ refl,
    nineless _ _ _ _ _ refl,
    nineless _ _ _ _ _ refl,
    nineless _ _ _ _ _ refl,
    nineless _ _ _ _ _ refl,
    nineless _ _ _ _ _ refl,
    nineless _ _ _ _ _ refl,
    nineless _ _ _ _ _ refl,
    nineless _ _ _ _ _ refl,
    nineless _ _ _ _ _ refl,
    nineless _ _ _ _ _ refl,
    nineless _ _ _ _ _ refl,
    nineless _ _ _ _ _ refl,
    nineless _ _ _ _ _ refl,
    nineless _ _ _ _ _ refl,
    nineless _ _ _ _ _ refl,
    nineless _ _ _ _ _ refl,
    nineless _ _ _ _ _ refl,
    nineless _ _ _ _ _ refl,
    nineless _ _ _ _ _ (record_lacks end r _ refl),
    nineless _ _ _ _ _ (record_lacks end r _ refl),
    nineless _ _ _ _ _ refl,
    nineless _ _ _ _ _ refl,
    nineless _ _ _ _ _ refl,
    nineless _ _ _ _ _ refl,
  )
