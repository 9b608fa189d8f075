-- The tests of a lent bank, written map and reasons, whatever tests come after them.
use mathlib.Core.Path.{◌≡◌}
use mathlib.Core.List.{List}
use Prim.Native.Nat.{ℕ}
use native.Mathlib.Omega.{arith}
use lib.ListN.{length}
use borrow.Author.Tests.{eq-eqb, ne_eqb, eqb-true, not-false}
use Rattle.rules.specs.Tile.{bank_size, written_size, reasons_size}
use Rattle.rules.specs.Refusal.{Test, ◌if◌, first}
use Rattle.rules.specs.Calls.{not_bytes, lent_tests, AllLent}
use Rattle.rules.proofs.Refused.{first_zero}

module _ (bank map reasons : List ℕ) (l : List Test) where
  pub short_bank : (length bank ≡ bank_size → ⊥) → 1 ≡ first (lent_tests bank map reasons l)
  unfolding first
  short_bank h = rw (ne_eqb _ _ h)

  pub short_map : length bank ≡ bank_size → (length map ≡ written_size → ⊥) → 1 ≡ first (lent_tests bank map reasons l)
  unfolding first
  short_map b h = rw (eq-eqb _ _ b, ne_eqb _ _ h)

  pub short_reasons : length bank ≡ bank_size → length map ≡ written_size → (length reasons ≡ reasons_size → ⊥)
      → 1 ≡ first (lent_tests bank map reasons l)
  unfolding first
  short_reasons b m h = rw (eq-eqb _ _ b, eq-eqb _ _ m, ne_eqb _ _ h)

  -- where all have their lengths, the other tests are left
  pub all_lent : AllLent bank map reasons → first (lent_tests bank map reasons l) ≡ first l
  unfolding first
  all_lent w = rw (eq-eqb _ _ w.whole_bank, eq-eqb _ _ w.whole_map, eq-eqb _ _ w.whole_reasons)

  -- where nothing is refused, all have their lengths, and no other test fails
  pub lent_passed : first (lent_tests bank map reasons l) ≡ 0 → AllLent bank map reasons × (first l ≡ 0)
  lent_passed z =
      let p = first_zero (1 if not_bytes bank_size bank) _ (λ e. omega arith) z in
      let q = first_zero (1 if not_bytes written_size map) _ (λ e. omega arith) p.1 in
      let r = first_zero (1 if not_bytes reasons_size reasons) _ (λ e. omega arith) q.1 in (
        record {
          whole_bank = eqb-true _ _ (not-false _ p.0);
          whole_map = eqb-true _ _ (not-false _ q.0);
          whole_reasons = eqb-true _ _ (not-false _ r.0);
        },
        r.1,
      )
