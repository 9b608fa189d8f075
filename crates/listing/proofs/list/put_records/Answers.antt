-- `listing::list::put_records` writes a record's text a turn, where the ones before it end. Assumes nothing.
use mathlib.Core.Path.{◌≡◌, ap, ◌∙◌}
use mathlib.Core.List.{List, [], ◌++◌, map-append, append-nil}
use Prim.Native.Nat.{ℕ, ◌+◌, ◌<◌}
use native.Mathlib.Omega.{arith}
use lib.ListN.{length, get_or, take}
use lib.Seq.{take_all}
use Rattle.std.proofs.lemmas.List.{take_more}
use Rattle.rules.specs.Base.{concat, over}
use Rattle.rules.specs.Lister.{line_text}
use Rattle.rules.proofs.Tables.{concat-append}
use Rattle.listing.specs.View.{record_text, record_texts}
use Rattle.decimal.proofs.Writes.{wrote_none, wrote_more}
use Rattle.listing.proofs.list.put_records.Goals as goal

-- the texts of a record more
more : (l : List (List ℕ)) (i : ℕ) → i < length l → record_texts (take (i + 1) l) ≡ record_texts (take i l) ++ record_text (get_or l i [])
unfolding concat
more l i h =
    rw (take_more l i [] h, map-append, concat-append) (ap (λ t. record_texts (take i l) ++ t) (append-nil (record_text (get_or l i []))))

pub loop-record-init : goal.loop-record-init
unfolding concat
loop-record-init c = record { near = omega arith; wrote = wrote_none _ }

pub loop-record-preserved : goal.loop-record-preserved
loop-record-preserved c =
    let i = c.loop-record.record-index in
    let l = c.args.records.now in
    let e = c.put_line-at.ensures in
    let own = ap line_text c.record_line.ensures in
    let before = c.loop-record.invariant.wrote in
    let w = wrote_more _ _ _ _ (record_text (get_or l i [])) _ _ before (rw own at e.value) (rw own at e.out_after) in
    record { near = omega (arith, e.upper_bound, c.loop-record.invariant.near); wrote = rw (more l i c.loop-record-test.true) w }

pub returns : goal.returns
returns c =
    let w = c.loop-record.invariant.wrote in
    let all : length c.args.records.now ≡ c.loop-record.record-index = omega arith in
    let whole = take_all c.loop-record.record-index c.args.records.now (omega arith) in
    record {
      value = w.end ∙ ap (λ l. length (record_texts l)) whole;
      upper_bound = omega (arith, c.loop-record.invariant.near);
      out_after = w.is ∙ ap (λ l. over (record_texts l) c.args.out.now) whole;
    }
