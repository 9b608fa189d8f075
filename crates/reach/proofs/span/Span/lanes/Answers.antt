-- `reach::span::Span::lanes`: all bits of a word's bytes, or of every second one.
use Rattle.std.proofs.Common.{◌≡◌, ℕ, ◌-◌, ◌*◌, ◌∙◌, ap, cond, bit_and, min, arith}
use Rattle.std.specs.Int.{w64}
use Rattle.reach.specs.Span.{lanes_in}
use Rattle.reach.proofs.Spans.{turned, full, whole_turned, lanes_placed}
use Rattle.reach.proofs.span.Span.lanes.Goals.{then-self, else-self}
use Rattle.reach.proofs.span.Span.lanes.Goals as goal

pub returns-then-rest-ge8 : goal.returns-then-rest-ge8
unfolding lanes_in
returns-then-rest-ge8 c =
    let s = c.args.self in
    let n : ℕ = min (s.bytes - 8 * c.args.w) 8 in
    let whole : n ≡ 8 = omega (arith, c.rest-rest.ensures) in
    let made : 18446744073709551615 ≡ turned w64 32 s.odd (full n) = rw whole (whole_turned s.odd) in
    c.reached_of.ensures
    ∙ ap (λ x. cond s.sparse (bit_and x 71777214294589695) x) made
    ∙ lanes_placed s.sparse s.odd n (omega arith)

pub returns : goal.returns
unfolding lanes_in
returns c =
    let s = c.args.self in
    let n : ℕ = min (s.bytes - 8 * c.args.w) 8 in
    let made : c.if-self.bytes ≡ turned w64 32 s.odd (full n) =
    elim c.if-self.branch [
      | then-self w ↦ w.bytes-is ∙ w.rotate_left-bytes.ensures ∙ rw (w.if-self.true, c.first_bytes-first.ensures, c.rest-rest.ensures)
      | else-self w ↦ w.bytes-is ∙ rw (w.if-self.false, c.first_bytes-first.ensures, c.rest-rest.ensures)
    ] in
    c.reached_of-2.ensures ∙ rw made (lanes_placed s.sparse s.odd n (omega arith))
