-- `tmem::reason::Reason::outside` tests the number of a rejected load alone. Assumes nothing.
use Rattle.tmem.proofs.reason.Reason.outside.Goals as goal

pub returns-in-Rejected : goal.returns-in-Rejected
returns-in-Rejected c = rw c.in-Rejected.is
