-- The declared reason as the rules have it. It gives nothing a meaning.
use Rattle.rules.specs.Load.{Reason, ordinary, rejected}
use Rattle.tmem.specs.declared.reason.Reason.{Reason as Declared}
use Rattle.tmem.specs.declared.reason.Reason.TheVariants.{Ordinary, Rejected}

abbrev pub reason_of : Declared → Reason
reason_of Ordinary = ordinary
reason_of (Rejected n) = rejected n
