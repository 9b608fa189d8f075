-- `lister::list_piece` lends the part of the text that is free, which has room for the piece's lines. Assumes nothing.
use Rattle.std.proofs.Common.{◌+◌, arith}
use Rattle.listing.proofs.Listed.{Listed, listed, listed_ok}
use Rattle.lister.proofs.list_piece.Goals.{After-unwrap}
use Rattle.lister.proofs.list_piece.Goals as goal

-- it is not refused
pub unwrap-requires : goal.unwrap-requires
unwrap-requires c =
    let t = c.args.text.now in
    let r = c.list-listed in
    listed_ok c.args.piece.now t.bytes t.end r.result r.new.out (rw t.bytes_len c.requires) (rw t.bytes_len r.ensures)

-- the piece's lines are written
lines : (c : After-unwrap) → let t = c.args.text.now in
    Listed c.args.piece.now t.bytes t.end (t.end + c.unwrap.result) c.list-listed.new.out
lines c =
    let t = c.args.text.now in
    let r = c.list-listed in
    listed c.args.piece.now t.bytes t.end r.result r.new.out (rw t.bytes_len c.requires) (rw t.bytes_len r.ensures) c.unwrap.result
    c.unwrap.ensures (rw t.bytes_len r.auto.out)

pub overflow_add-text : goal.overflow_add-text
overflow_add-text c = omega (arith, (lines (goal.at.overflow_add-text c).After-unwrap).within, c.args.text.now.bytes_len)

pub invariant_of-text-clause-end_in_bounds : goal.invariant_of-text-clause-end_in_bounds
invariant_of-text-clause-end_in_bounds c =
    omega (arith, (lines (goal.at.invariant_of-text-clause-end_in_bounds c).After-unwrap).within, c.args.text.now.bytes_len)

pub returns-clause-end_value : goal.returns-clause-end_value
returns-clause-end_value c = (lines (goal.at.returns-clause-end_value c).After-unwrap).ends

pub returns-clause-text_after : goal.returns-clause-text_after
returns-clause-text_after c = rw (← c.args.text.now.bytes_len) (lines (goal.at.returns-clause-text_after c).After-unwrap).is
