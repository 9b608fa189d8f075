-- `splitter::group::Groups::new`: with no questions every way ends at group 0. Assumes nothing.
use Rattle.splitter.proofs.Groups.{start_known}
use Rattle.splitter.proofs.group.Groups.new.Goals as goal

pub returns : goal.returns
returns c = start_known
