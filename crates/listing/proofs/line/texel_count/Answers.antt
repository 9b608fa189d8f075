-- `listing::line::texel_count` counts a lookup's texels or a plain picture's; `side_limit` times `side_limit` fits. Assumes nothing.
use native.Mathlib.Omega.{arith}
use native.Mathlib.Nat.{mul-le-mul}
use Rattle.listing.proofs.line.texel_count.Goals as goal

pub overflow_mul-result : goal.overflow_mul-result
overflow_mul-result c = let p = c.requires in omega (arith, mul-le-mul p.0 p.1)

pub returns-else-lookup : goal.returns-else-lookup
returns-else-lookup c = rw c.if-lookup.false
