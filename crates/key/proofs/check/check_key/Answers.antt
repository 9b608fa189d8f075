-- `key::check::check_key` answers the call's outcome: the first refusal, or what the check says. Assumes nothing.
use mathlib.Core.Path.{◌≡◌, sym}
use mathlib.Core.List.{List, []}
use Prim.Native.Nat.{ℕ}
use Rattle.rules.specs.Tile.{Tile}
use Rattle.rules.specs.Refusal.{first}
use Rattle.rules.specs.Calls.{key_tests, check_call}
use Rattle.rules.specs.Check.{checked}
use Rattle.rules.proofs.Refused.{done_is}
use Rattle.rdp.specs.View.{tile_of}
use Rattle.rdp.proofs.Refusals.{refused_call}
use Rattle.key.proofs.Within.{of_bank, of_out, of_picture}
use Rattle.key.proofs.check.check_key.Goals as goal

pub returns-in_err-bank : goal.returns-in_err-bank
unfolding check_call checked
returns-in_err-bank c =
    let a = c.args in
    refused_call _ _ _ _ _ _ _ c.from_residual.ensures.1
    (of_bank a.bank.now (tile_of a.tile) a.tlut a.lane a.offer.now _ c.in_err-bank.ensures.refused)

pub returns-in_err-offer : goal.returns-in_err-offer
unfolding check_call checked
returns-in_err-offer c =
    let a = c.args in
    refused_call _ _ _ _ _ _ _ c.from_residual-in_err-offer.ensures.1
    (of_out a.bank.now (tile_of a.tile) a.tlut a.lane a.offer.now c.in_ok-bank.ensures.refused _ c.in_err-offer.ensures.refused)

pub returns-in_err-picture : goal.returns-in_err-picture
unfolding check_call checked
returns-in_err-picture c =
    let a = c.args in
    refused_call _ _ _ _ _ _ _ c.from_residual-in_err-picture.ensures.1
    (of_picture a.bank.now (tile_of a.tile) a.tlut a.lane a.offer.now c.in_ok-bank.ensures.refused _ c.in_ok-offer.ensures.refused
    c.in_err-picture.ensures.refused)

-- where nothing is refused, what the check says is the call's
done : (bank : List ℕ) (t : Tile) (mode lane : ℕ) (offer says : List ℕ) → 0 ≡ first (key_tests bank t mode lane offer)
    → says ≡ checked t mode lane bank offer → record { refusal = 0; numbers = says; buffers = [] } ≡ check_call bank t mode lane offer
unfolding check_call
done bank t mode lane offer says z e = rw e (done_is (key_tests bank t mode lane offer) _ _ _ (sym z))

pub returns : goal.returns
returns c =
    let a = c.args in
    let k = c.in_ok-picture.ensures.kept in
    let none = of_picture a.bank.now (tile_of a.tile) a.tlut a.lane a.offer.now c.in_ok-bank.ensures.refused _
    c.in_ok-offer.ensures.refused c.in_ok-picture.ensures.refused in
    done _ _ _ _ _ _ none (rw (k.0, k.1, k.2, c.in_ok-bank.ensures.kept, c.in_ok-offer.ensures.kept) at c.check_picture.ensures)
