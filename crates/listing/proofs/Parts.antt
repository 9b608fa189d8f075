-- A line's text from its four numbers, written one after the other.
use mathlib.Core.Path.{◌≡◌, ◌∙◌}
use mathlib.Core.List.{List, [], ◌∷◌, ◌++◌, append_assoc}
use Prim.Native.Nat.{ℕ, ◌+◌, ◌≤◌}
use native.Mathlib.Omega.{arith}
use lib.ListN.{length, take, length-append}
use lib.Seq.{length-take-le}
use Rattle.rules.specs.Base.{over}
use Rattle.rules.specs.Lister.{number_text, line_room, line_text}
use Rattle.decimal.proofs.Texts.{Put}
use Rattle.decimal.proofs.Writes.{wrote_start, wrote_more}

-- a line's text after another, in the order of writing
joined : (t : List ℕ) (a b c d : ℕ)
    → (((t ++ number_text a 32) ++ number_text b 32) ++ number_text c 32) ++ number_text d 10 ≡ t ++ line_text (a ∷ b ∷ c ∷ d ∷ [])
unfolding line_text
joined t a b c d = simp append_assoc

-- the four numbers were put, each where the one before it ends
pub line_put : (a b c d : ℕ) (out : List ℕ) (at : ℕ) (xs ys zs left : List ℕ) (i j k end : ℕ) → at ≤ length out → Put a 32 out at xs i
    → Put b 32 xs i ys j → Put c 32 ys j zs k → Put d 10 zs k left end
    → let t = line_text (a ∷ b ∷ c ∷ d ∷ []) in
    (end ≡ at + length t) × ((end ≤ at + line_room) × (left ≡ over (take at out ++ t) out))
line_put a b c d out at xs ys zs left i j k end h p q r s =
    let one = wrote_more _ out at out (number_text a 32) xs i (wrote_start out at h) p.ends p.is in
    let two = wrote_more _ out i xs (number_text b 32) ys j one q.ends q.is in
    let three = wrote_more _ out j ys (number_text c 32) zs k two r.ends r.is in
    let four = wrote_more _ out k zs (number_text d 10) left end three s.ends s.is in
    let n : length (take at out) ≡ at = length-take-le at out h in
    let e = joined (take at out) a b c d in
    (four.end ∙ rw (e, length-append, n), (omega (arith, p.near, q.near, r.near, s.near), four.is ∙ rw e))
