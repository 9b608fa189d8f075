-- `tmem::source::source_word` takes of the source's rest what the word takes of the source. Assumes nothing.
use mathlib.Core.Path.{◌∙◌}
use Prim.Native.Nat.{ℕ, ◌+◌, min}
use mathlib.Core.Bool.{true, false}
use native.Mathlib.Omega.{arith}
use lib.ListN.{length, get_or, drop}
use mir.Syntax.{w8}
use mir.Val.{Fits}
use Rattle.std.proofs.lemmas.List.{drop_min, get_or-drop}
use Rattle.rules.proofs.Over.{rest_is}
use Rattle.tmem.specs.Part.{place_of, Taken}
use Rattle.tmem.proofs.PastEnd.{word_past}
use Rattle.tmem.proofs.Taken.{first_eight, kept_as_one, taken_of}
use Rattle.tmem.proofs.source.source_word.Goals as goal

pub returns-then-replicate : goal.returns-then-replicate
returns-then-replicate c =
    let a = c.args in
    let t = rw (c.min.ensures, rest_is (min a.at (length a.src.now)) a.src.now, drop_min a.at a.src.now) at c.pair_word.ensures in
    rw c.if-replicate.true (taken_of a.src.now a.at true t)

pub returns-in-Some : goal.returns-in-Some
returns-in-Some c =
    let a = c.args in
    let rest = drop a.at a.src.now in
    let is = rest_is (min a.at (length a.src.now)) a.src.now in
    let chunk = rw (c.min.ensures, is, drop_min a.at a.src.now) at c.in-Some.ensures.cases in
    let fits : (i : ℕ) → Fits w8 (get_or rest i 0) = λ i. rw (get_or-drop a.at a.src.now i 0) (c.type_inv.src (a.at + i)) in
    let taken : Taken rest (place_of 0 false) (record { bytes = c.from_le_bytes.result; made_up = 0 }) =
    record {
      bytes_are = kept_as_one rest (place_of 0 false) _ _ fits (chunk.same ∙ first_eight rest chunk.enough) c.from_le_bytes.ensures;
      made_up_is = omega (arith, word_past (length rest) 0, chunk.enough);
    } in
    rw c.if-replicate.false (taken_of a.src.now a.at false taken)

pub returns-in-None : goal.returns-in-None
returns-in-None c =
    let a = c.args in
    let t = rw (c.min.ensures, rest_is (min a.at (length a.src.now)) a.src.now, drop_min a.at a.src.now) at c.cut_word.ensures in
    rw c.if-replicate.false (taken_of a.src.now a.at false t)
