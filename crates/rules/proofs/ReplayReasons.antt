-- The reasons along a replay, document 02's item 8: its records have none, so its loads are ordinary ones, and clear.
use mathlib.Core.Path.{◌≡◌, refl, ap, ◌∙◌}
use mathlib.Core.Bool.{Bool, true, false, cond}
use mathlib.Core.List.{List, [], ◌∷◌}
use Prim.Native.Nat.{ℕ, ◌<◌}
use native.Mathlib.Decide.{dec_lt}
use native.Mathlib.Omega.{arith}
use lib.ListN.{length, get_or, get_or-eq_default}
use Rattle.rules.specs.Base.{mem}
use Rattle.rules.specs.Tile.{reasons_size}
use Rattle.rules.specs.Load.{Store, addresses, ordinary, reason_left, reasoned}
use Rattle.rules.specs.Replay.{stores_in, Carried, fresh, in_file, onward, replayed}
use Rattle.rules.proofs.Maps.{zeros_at}
use Rattle.rules.proofs.Reasons.{reason_at, length-reasoned}
use Rattle.rules.proofs.Replay.{loads, not_done_keeps, done_leaves}

-- an address without a reason has none after an ordinary load
stays_clear : (l : List Store) (m : List ℕ) (a : ℕ) → get_or m a 0 ≡ 0 → get_or (reasoned (reason_left ordinary) l m) a 0 ≡ 0
stays_clear l m a e = go (dec_lt a (length m))
  where
    none : (b : Bool) → cond b 0 (get_or m a 0) ≡ 0
    none true = refl
    none false = e

    go : Dec (a < length m) → get_or (reasoned (reason_left ordinary) l m) a 0 ≡ 0
    go (yes h) = reason_at (reason_left ordinary) l m a h ∙ none (mem a (addresses l))
    go (no h) = get_or-eq_default (reasoned (reason_left ordinary) l m) 0 {n = a} (rw length-reasoned (omega (arith, h)))

module _ (file : List ℕ) (a : ℕ) where
  -- nor after the records of a replay
  pub none_left : (l : List (List ℕ)) (m : Carried) → get_or m.reasons a 0 ≡ 0 → get_or (replayed (in_file file) l m).reasons a 0 ≡ 0
  unfolding replayed
  none_left [] m e = e
  none_left (r ∷ l) m e = none_left l (onward (in_file file r m)) (go (loads file r m.last) refl)
    where
      go : (b : Bool) → loads file r m.last ≡ b → get_or (onward (in_file file r m)).reasons a 0 ≡ 0
      go true h = ap (λ (c : Carried). get_or c.reasons a 0) (done_leaves file r m h) ∙ stays_clear (stores_in r) m.reasons a e
      go false h = ap (λ (c : Carried). get_or c.reasons a 0) (not_done_keeps file r m h) ∙ e

  -- from the fresh state on no address has one
  pub fresh_none : (l : List (List ℕ)) → get_or (replayed (in_file file) l fresh).reasons a 0 ≡ 0
  fresh_none l = none_left l fresh (zeros_at reasons_size a)
