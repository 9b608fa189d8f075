-- The numbers of a written map that stands for a map of marks.
use Rattle.std.specs.Prelude.{ℕ, List, ◌/◌, ◌%◌, ◌^◌, length, get_or, cond, nat_eq, nat_lt}

-- Byte i of the written map: address i / 2 has the number 256 or 1 where it is marked, and 0 where it is not.
abbrev pub number_byte : List ℕ → ℕ → ℕ
number_byte map i =
    let at = i / 2 in
    cond (nat_lt (at / 8) (length map))
    (cond (nat_eq (i % 2) (at % 2)) (get_or map (at / 8) 0 / 2 ^ (at % 8) % 2) 0) 0
