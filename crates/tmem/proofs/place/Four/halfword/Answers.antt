-- `tmem::place::Four::halfword` is what the list of four holds at its place. Assumes nothing.
use Rattle.tmem.proofs.Indices.{place_held}
use Rattle.tmem.proofs.place.Four.halfword.Goals as goal

pub returns : goal.returns
returns c = let s = c.args.self in place_held s.first.number s.odd c.args.k s.spots c.requires
