-- A line from what the key call answers over a whole bank: the same refusal, or the flag, the kept count and the texels.
use mathlib.Core.Path.{◌≡◌, sym}
use mathlib.Core.Bool.{Bool, cond}
use mathlib.Core.List.{List, [], ◌∷◌}
use Prim.Native.Nat.{ℕ, ◌*◌}
use lib.ListN.{length}
use Rattle.std.specs.Prelude.{Result, IsErrAnd}
use Rattle.rules.specs.Base.{one}
use Rattle.rules.specs.Tile.{Tile, bank_size}
use Rattle.rules.specs.Refusal.{first}
use Rattle.rules.specs.Sampling.{flag, lookup_texels, texels}
use Rattle.rules.specs.Calls.{pair_tests, key_call}
use Rattle.rules.specs.Lister.{line_to, line_of}
use Rattle.rules.proofs.Refused.{done_is}
use Rattle.rules.proofs.Allowed.{Allowed, allowed}
use Rattle.rdp.specs.Refused.{number_of}
use Rattle.rdp.specs.declared.refusal.Refusal.{Refusal}
use Rattle.rdp.proofs.Refusals.{refused_call}
use Rattle.key.proofs.Called.{called_refusal, called_count}
use Rattle.listing.specs.View.{line_answered}
use Rattle.listing.specs.declared.line.Listed.{Listed}

module _ (bank : List ℕ) (t : Tile) (mode : ℕ) (out : List ℕ) (whole : length bank ≡ bank_size) (room : length out ≡ bank_size) where
  pub line_refused : (r : Result Listed Refusal) (e : Refusal) (left : List ℕ) → IsErrAnd r (λ f. f ≡ e)
      → record { refusal = number_of e; numbers = 0 ∷ []; buffers = left ∷ [] } ≡ key_call bank t mode 0 out
      → line_answered r ≡ line_of t mode bank
  unfolding line_to
  line_refused r e left h answer =
      refused_call _ r e (pair_tests t mode 0) _ [] [] h (called_refusal bank t mode 0 out whole room (number_of e) 0 left answer)

  module _ (count : ℕ) (left : List ℕ)
      (answer : record { refusal = 0; numbers = count ∷ []; buffers = left ∷ [] } ≡ key_call bank t mode 0 out) where
    passes : first (pair_tests t mode 0) ≡ 0
    passes = sym (called_refusal bank t mode 0 out whole room 0 count left answer)

    -- a line that is not refused is of a tile in range
    pub line_allowed : Allowed t mode 0
    line_allowed = allowed t mode 0 passes

    pub line_done : (b : Bool) (n : ℕ) → b ≡ flag t mode → n ≡ cond b lookup_texels (t.width * t.height)
        → record { refusal = 0; numbers = one b ∷ count ∷ n ∷ []; buffers = [] } ≡ line_of t mode bank
    unfolding line_to texels
    line_done b n f e =
        rw (e, f, called_count bank t mode 0 out whole room 0 count left answer passes) (done_is _ _ _ _ passes)
