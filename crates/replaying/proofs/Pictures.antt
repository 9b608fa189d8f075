-- A picture passes the tests of its tile, mode, lane and pair.
use mathlib.Core.Path.{◌≡◌}
use borrow.Author.Tests.{le-ltb}
use Rattle.rules.specs.Refusal.{first}
use Rattle.rules.specs.Calls.{pair_tests}
use Rattle.rdp.specs.View.{tile_of}
use Rattle.texdec.specs.declared.pair.Picture.{Picture}

pub picture_passes : (p : Picture) → first (pair_tests (tile_of p.tile) p.tlut p.lane) ≡ 0
unfolding first
picture_passes p =
    let i = p.in_range in
    rw (
      le-ltb 7 _ i.fmt,
      le-ltb 3 _ i.siz,
      le-ltb 511 _ i.line,
      le-ltb 511 _ i.tmem_addr,
      le-ltb 15 _ i.palette,
      le-ltb 3 _ i.cms,
      le-ltb 3 _ i.cmt,
      le-ltb 15 _ i.masks,
      le-ltb 15 _ i.maskt,
      le-ltb 4096 _ i.width,
      le-ltb 4096 _ i.height,
      le-ltb 3 _ p.tlut_bound,
      le-ltb 3 _ p.lane_bound,
      p.pair_accepted,
    )
