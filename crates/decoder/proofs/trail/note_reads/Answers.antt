-- `decoder::trail::note_reads` writes one address after the other.
use Rattle.decoder.proofs.Trails.{capped_none, capped_end, noted-length}
use Rattle.rules.specs.Reading.{encoded}
use Rattle.rules.specs.Base.{over}
use lib.ListN.{length}
use native.Mathlib.Omega.{arith}
use mathlib.Core.Path.{◌≡◌, ap, ◌∙◌}
use Rattle.decoder.proofs.trail.note_reads.Goals.{At-loop-i}
use Rattle.decoder.proofs.trail.note_reads.Goals as goal

-- the function's entry, and that the trail keeps its length
keeps : (c : At-loop-i) → length c.loop-i.seen ≡ length c.args.seen.now
keeps c =
    let a = c.args in
    ap length c.loop-i.invariant.1 ∙ noted-length a.reads a.seen.now c.loop-i.i a.count c.requires.count_in_bounds

pub returns-then-count-gt4 : goal.returns-then-count-gt4
returns-then-count-gt4 c = absurd (omega arith)

pub loop-i-init : goal.loop-i-init
unfolding encoded over
loop-i-init c = (omega arith, rw (capped_none c.args.count))

pub note_one-requires : goal.note_one-requires
note_one-requires c = record {
  count_bound = c.requires.count_bound;
  count_in_bounds = rw (keeps (goal.at.note_one-requires c).At-loop-i) c.requires.count_in_bounds;
}

pub loop-i-preserved : goal.loop-i-preserved
loop-i-preserved c =
    (omega arith, c.note_one.ensures c.args.seen.now c.requires.count_in_bounds c.loop-i.invariant.1)

pub shape_of-seen : goal.shape_of-seen
shape_of-seen c = keeps (goal.at.shape_of-seen c).At-loop-i

pub returns : goal.returns
returns c =
    let e : c.loop-i.i ≡ 4 = omega arith in
    rw (← capped_end 4 c.args.count c.requires.count_bound.0) (rw e at c.loop-i.invariant.1)
