-- Bodies, and up to where two are the same.
use Rattle.std.specs.Prelude.{◌≡◌, List, ℕ, ◌-◌, ◌<◌, get_or}
use Rattle.rules.specs.Split.{entry_size, capture_size}

abbrev pub body_size : ℕ
body_size = entry_size - capture_size

-- the bytes that are compared at once
abbrev pub block_size : ℕ
block_size = 64

-- the bytes below n are the same
abbrev pub SameUpTo : List ℕ → List ℕ → ℕ → Type 0
SameUpTo a b n = (k : ℕ) → k < n → get_or a k 0 ≡ get_or b k 0
