-- The room of a text.
use Rattle.std.specs.Prelude.{ℕ}

abbrev pub text_size : ℕ
text_size = 65536
