-- `listing::list::put_lines` writes the records' lines, and a torn tail's after them. Assumes nothing.
use mathlib.Core.Path.{sym, ◌∙◌}
use Prim.Native.Nat.{◌/◌}
use native.Mathlib.Omega.{arith}
use lib.ListN.{length}
use borrow.Author.Tests.{eqb-true, eqb-false}
use Rattle.std.specs.Simd.{first_chunks}
use Rattle.rules.specs.Lister.{record_size}
use Rattle.listing.specs.View.{record_texts}
use Rattle.decimal.proofs.Writes.{Wrote}
use Rattle.listing.proofs.Listed.{whole_text, torn_text}
use Rattle.listing.proofs.list.put_lines.Goals.{After-put_records-at}
use Rattle.listing.proofs.list.put_lines.Goals as goal

-- the records' lines are written
records : (c : After-put_records-at) → let a = c.args in
    let p = c.put_records-at in
    Wrote (record_texts (first_chunks record_size (length a.input.now / record_size) a.input.now)) a.out.now p.result p.new.out
records c = rw (← c.as_chunks.ensures.front) record { is = c.put_records-at.ensures.out_after; end = c.put_records-at.ensures.value }

pub returns-then-is_empty : goal.returns-then-is_empty
returns-then-is_empty c =
    let none = eqb-true _ _ (sym c.is_empty.ensures ∙ c.if-is_empty.true) in
    let w = whole_text _ _ _ _ (records (goal.at.returns-then-is_empty c).After-put_records-at) (omega (arith, none)) in
    record {
      value = w.end;
      out_after = w.is;
    }

pub returns : goal.returns
returns c =
    let l = c.put_line.ensures in
    let some = eqb-false _ _ (sym c.is_empty.ensures ∙ c.if-is_empty.false) in
    let before = records (goal.at.returns c).After-put_records-at in
    let w = torn_text _ _ _ _ before _ _ (λ e. some (c.as_chunks.ensures.back_len ∙ e)) l.value l.out_after
    in
    record {
      value = w.end;
      out_after = w.is;
    }
