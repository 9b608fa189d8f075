-- The version of the library. It is no rule of the documents, and so stands here: a new one has this crate alone proved again.
use Rattle.std.specs.Prelude.{ℕ, ◌+◌, ◌*◌}

-- 1.0.0 as one number: a million times the first, a thousand times the second, and the third
abbrev pub version : ℕ
version = 1000000 * 1 + 1000 * 0 + 0
