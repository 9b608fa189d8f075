-- `splitter::entry::differ` looks for the first bytes that differ from the block on that does. Assumes nothing.
use mathlib.Core.Path.{◌≡◌}
use mathlib.Core.Bool.{not}
use Prim.Native.Nat.{ℕ, ◌-◌, ◌≤◌}
use native.Mathlib.Omega.{arith}
use lib.Dec.{eqb}
use lib.ListN.{length, drop, length-drop}
use lib.Seq.{take_all}
use borrow.Author.Tests.{tests}
use Rattle.std.proofs.Common.{rules}
use Rattle.std.proofs.lemmas.Iterator.{YieldsList-from_slice, YieldsList-from_zip}
use Rattle.std.proofs.lemmas.Iterator.Search.{position_from_yields_List}
use Rattle.splitter.proofs.Differ.{same_until}
use Rattle.splitter.proofs.entry.differ.Goals as goal

pub returns-clause-same_up_to : goal.returns-clause-same_up_to
returns-clause-same_up_to c =
    let a = c.args.a.now in
    let b = c.args.b.now in
    let start = c.same_blocks-start in
    let sizes : length a ≡ length b = search rules in
    let within : start.result ≤ length a = search rules in
    let ta = take_all (length a - start.result) (drop start.result a) (omega (arith, length-drop start.result a)) in
    let first : c.zip.result.a.rest.now ≡ drop start.result a = cc in
    let tb = take_all (length b - start.result) (drop start.result b) (omega (arith, length-drop start.result b)) in
    let second : c.zip.result.b.rest.now ≡ drop start.result b = cc in
    let found = position_from_yields_List (λ (q : ℕ × ℕ). not (eqb q.0 q.1)) c.position.new.self _ c.position.result c.position.ensures.ran
    (YieldsList-from_zip (YieldsList-from_slice (drop start.result a) first) (YieldsList-from_slice (drop start.result b) second))
    (λ x b q k. search (rules, tests)) in
    let size : c.map_or.result ≤ length a = search rules in
    same_until a b start.result sizes within start.ensures.same_up_to c.position.result _ found size (λ k e. search rules)
