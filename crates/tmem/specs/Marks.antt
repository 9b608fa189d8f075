-- The written record with a halfword's numbers, of two addresses, which a load stores together.
use Rattle.std.specs.Prelude.{ℕ, ◌+◌}
use denote.Ref.{at_last}
use Rattle.rules.specs.Base.{stamped}
use Rattle.tmem.specs.declared.written.Written.{Written}

-- the same borrow, with address a and the next at the number: `at_last x l` is the reference x, its pointer and its ghost name with it,
-- at the list l
abbrev pub marked_in : Written → ℕ → ℕ → Written
marked_in w a n = record { map = at_last w.map (stamped n (stamped n w.map.now a) (a + 1)) }
