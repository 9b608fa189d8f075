-- `replaying::asks::asked_in` names the numbers of the record's kind. Assumes nothing.
use mathlib.Core.Path.{◌≡◌, sym, ◌∙◌}
use mathlib.Core.List.{[], ◌∷◌}
use Prim.Native.Nat.{ℕ, ◌≤◌}
use native.Mathlib.Omega.{arith}
use lib.Dec.{ltb}
use borrow.Author.Tests.{lt-ltb, le-ltb}
use Rattle.rules.specs.Refusal.{◌if◌, first}
use Rattle.rules.specs.Replay.{kind_in}
use Rattle.replaying.proofs.Says.{says_block, says-tile, says-tlut}
use Rattle.replaying.proofs.asks.asked_in.Goals as goal

-- a kind is known up to 3
known : (k : ℕ) → k ≤ 3 → 0 ≡ first ((10 if ltb 3 k) ∷ [])
unfolding first
known k h = rw (le-ltb 3 k h)

pub returns-in-0 : goal.returns-in-0
returns-in-0 c =
    let k = sym c.byte_at.ensures ∙ c.in-0.is in
    record { refused = known _ (omega (arith, k)); said = says_block _ _ _ k c.two_at.ensures c.two_at-words.ensures }

pub returns-in-1 : goal.returns-in-1
returns-in-1 c =
    let k = sym c.byte_at.ensures ∙ c.in-1.is in
    record {
      refused = known _ (omega (arith, k));
      said = says-tile _ _ _ c.two_at-rows.ensures c.two_at-stride.ensures _ k c.two_at-words.ensures;
    }

pub returns-in-2 : goal.returns-in-2
returns-in-2 c =
    let k = sym c.byte_at.ensures ∙ c.in-2.is in
    let tlut = says-tlut _ _ _ c.two_at-rows.ensures c.two_at-stride.ensures _ _ k c.two_at-in-2.ensures c.two_at-count.ensures in
    record { refused = known _ (omega (arith, k)); said = rw c.tlut.ensures tlut }

pub returns-in-3 : goal.returns-in-3
returns-in-3 c =
    let k = sym c.byte_at.ensures ∙ c.in-3.is in
    record { refused = known _ (omega (arith, k)); said = rw k }

pub returns-in_default-clause-refused : goal.returns-in_default-clause-refused
unfolding first
returns-in_default-clause-refused c = rw (lt-ltb 3 (kind_in c.args.bytes.now) (omega (arith, c.in_default, c.byte_at.ensures)))
