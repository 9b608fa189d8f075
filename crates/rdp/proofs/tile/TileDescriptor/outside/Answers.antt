-- `rdp::tile::TileDescriptor::outside` is the rule's test: its first part is what `load_fields_outside` says. Assumes nothing.
use Rattle.rdp.proofs.tile.TileDescriptor.outside.Goals as goal

pub returns : goal.returns
returns c = rw c.load_fields_outside.ensures
