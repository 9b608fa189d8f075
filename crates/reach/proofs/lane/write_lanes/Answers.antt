-- `reach::lane::write_lanes` writes byte after byte.
use Rattle.std.proofs.Common.{◌≡◌, sym, ◌∙◌, refl, add-one, arith, length-set}
use Rattle.std.proofs.Math.Seq.{take-suc-set, take_all}
use Rattle.rules.specs.Base.{tab, tab_from}
use Rattle.rules.specs.Tile.{lane_map_size}
use Rattle.rules.proofs.Tables.{tab-more}
use Rattle.reach.proofs.Lanes.{lane_table}
use Rattle.reach.proofs.lane.write_lanes.Goals as goal

pub loop-i-init : goal.loop-i-init
unfolding tab tab_from
loop-i-init c = record { map_len = c.told-map; written = refl }

pub loop-i-preserved : goal.loop-i-preserved
loop-i-preserved c =
    let l = c.loop-i in
    let byte = c.slots_byte.result in
    record {
      map_len = length-set l.map l.i byte ∙ l.invariant.map_len;
      written = rw (tab-more, add-one, take-suc-set l.map l.i byte (omega arith), l.invariant.written, c.slots_byte.ensures);
    }

pub returns : goal.returns
returns c =
    let l = c.loop-i in
    let end : l.i ≡ lane_map_size = omega arith in
    sym (take_all lane_map_size l.map (omega arith)) ∙ (rw end at l.invariant.written) ∙ sym (lane_table c.args.bank.now)
