-- A buffer that is lent as an array of its length, or refused with 1.
use mathlib.Core.Path.{◌≡◌}
use mathlib.Core.List.{List}
use Prim.Native.Nat.{ℕ}
use Rattle.std.specs.Prelude.{Option, Some, None, Ok, Err, MatchOption}
use Rattle.std.specs.Option.{ok_or}
use Rattle.std.specs.Array.{IsWholeChunk}
use Rattle.rules.specs.Calls.{AllLent}
use Rattle.rules.specs.Replay.{carried}
use Rattle.rules.specs.Tile.{bank_size, written_size, reasons_size}
use Rattle.rdp.specs.declared.refusal.Refusal.{Refusal}
use Rattle.rdp.specs.declared.refusal.Refusal.TheVariants.{Length}

module _ {X : Type 0} (Q : Type 0) (P : X → Type 0) where
  pub not_lent : (o : Option X) (e : Refusal) → Err e ≡ ok_or o Length → MatchOption o Q P → (e ≡ Length) × Q
  not_lent None e v m = (cc, m)
  not_lent (Some x) e v m = absurd (cc)

  pub lent_array : (o : Option X) (x : X) → Ok x ≡ ok_or o Length → MatchOption o Q P → P x
  lent_array None x v m = absurd (cc)
  lent_array (Some y) x v m = let e : x ≡ y = cc in rw e m

-- All three are whole, and as they were lent.
pub all_arrays : (bank map reasons bank' map' reasons' : List ℕ) (last : ℕ) → IsWholeChunk bank bank' bank_size
    → IsWholeChunk map map' written_size → IsWholeChunk reasons reasons' reasons_size
    → AllLent bank map reasons × (carried bank' map' reasons' last ≡ carried bank map reasons last)
all_arrays bank map reasons bank' map' reasons' last b w r = (
  record { whole_bank = b.long; whole_map = w.long; whole_reasons = r.long },
  λ i. carried (b.same i) (w.same i) (r.same i) last,
)
