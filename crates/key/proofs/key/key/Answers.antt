-- `key::key::key` answers the call's outcome: the first refusal, or the key and its kept count. Assumes nothing.
use mathlib.Core.Path.{◌≡◌, sym}
use mathlib.Core.List.{List, [], ◌∷◌}
use Prim.Native.Nat.{ℕ}
use Rattle.rules.specs.Tile.{Tile}
use Rattle.rules.specs.Refusal.{first}
use Rattle.rules.specs.Calls.{key_tests, key_call}
use Rattle.rules.specs.Key.{key, kept_count}
use Rattle.rules.proofs.Refused.{refused_is, done_is}
use Rattle.rdp.specs.declared.refusal.Refusal.TheVariants.{Length}
use Rattle.rdp.specs.View.{tile_of}
use Rattle.rdp.proofs.Refusals.{numbered, refused_call}
use Rattle.key.proofs.Within.{another_number, same_number, of_bank, of_out, of_picture}
use Rattle.key.proofs.key.key.Goals as goal

pub returns-in_err-bank : goal.returns-in_err-bank
unfolding key_call
returns-in_err-bank c =
    let a = c.args in
    refused_call _ _ _ _ _ _ _ c.from_residual.ensures.1
    (of_bank a.bank.now (tile_of a.tile) a.tlut a.lane a.out.now _ c.in_err-bank.ensures.refused)

pub returns-in_default : goal.returns-in_default
unfolding key_call
returns-in_default c =
    let a = c.args in
    refused_is _ _ _ _ _
    (of_out a.bank.now (tile_of a.tile) a.tlut a.lane a.out.now c.in_ok-bank.ensures.refused Length
    (another_number 4096 a.out.now c.in_default.ensures.cases)) (numbered Length)

pub returns-in_err-picture : goal.returns-in_err-picture
unfolding key_call
returns-in_err-picture c =
    let a = c.args in
    rw c.in-Some.ensures.cases.same
    (refused_call _ _ _ _ _ _ _ c.from_residual-in_err-picture.ensures.1
    (of_picture a.bank.now (tile_of a.tile) a.tlut a.lane a.out.now c.in_ok-bank.ensures.refused _
    (same_number 4096 a.out.now c.in-Some.ensures.cases.long) c.in_err-picture.ensures.refused))

-- where nothing is refused, the key and its count are the call's
done : (bank : List ℕ) (t : Tile) (mode lane : ℕ) (out left : List ℕ) (count : ℕ) → 0 ≡ first (key_tests bank t mode lane out)
    → left ≡ key t mode lane bank → count ≡ kept_count t mode lane bank
    → record { refusal = 0; numbers = count ∷ []; buffers = left ∷ [] } ≡ key_call bank t mode lane out
unfolding key_call
done bank t mode lane out left count z e f = rw (e, f) (done_is (key_tests bank t mode lane out) _ _ _ (sym z))

pub returns : goal.returns
returns c =
    let a = c.args in
    let k = c.in_ok-picture.ensures.kept in
    let none : 0 ≡ first (key_tests a.bank.now (tile_of a.tile) a.tlut a.lane a.out.now) =
    of_picture a.bank.now (tile_of a.tile) a.tlut a.lane a.out.now c.in_ok-bank.ensures.refused _
    (same_number 4096 a.out.now c.in-Some.ensures.cases.long) c.in_ok-picture.ensures.refused in
    done _ _ _ _ _ _ _ none (rw (k.0, k.1, k.2, c.in_ok-bank.ensures.kept) at c.cut_picture.ensures.key_value)
    (rw (k.0, k.1, k.2, c.in_ok-bank.ensures.kept) at c.cut_picture.ensures.count_value)
