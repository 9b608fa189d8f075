-- `tmem::asked::Asked::outside` goes by the rule's test of each load. Assumes nothing.
use Rattle.tmem.proofs.asked.Asked.outside.Goals as goal

pub returns-in-Block : goal.returns-in-Block
returns-in-Block c = rw c.in-Block.is

pub returns-in-Tile : goal.returns-in-Tile
returns-in-Tile c = rw c.in-Tile.is

pub returns-in-TlutHardware : goal.returns-in-TlutHardware
returns-in-TlutHardware c = rw c.in-TlutHardware.is c.hardware_outside.ensures

pub returns-in-TlutRows : goal.returns-in-TlutRows
returns-in-TlutRows c = rw c.in-TlutRows.is
