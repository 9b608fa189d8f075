-- `reach::span::Span::bits`: the bits of a word's bytes, all or every second one.
use Rattle.std.proofs.Common.{◌≡◌, ℕ, ◌-◌, ◌*◌, ◌^◌, ◌∙◌, min, true, false, arith}
use Rattle.std.specs.Int.{w8}
use Rattle.reach.specs.Span.{bits_in}
use Rattle.reach.proofs.Spans.{turned, bits_placed}
use Rattle.reach.proofs.span.Span.bits.Goals.{then-self, else-self}
use Rattle.reach.proofs.span.Span.bits.Goals as goal

pub returns-then-self-2 : goal.returns-then-self-2
unfolding bits_in
returns-then-self-2 c =
    let s = c.args.self in
    let n : ℕ = min (s.bytes - 8 * c.args.w) 8 in
    let made : c.if-self.bits ≡ turned w8 4 s.odd (2 ^ n - 1) =
    elim c.if-self.branch [
      | then-self w ↦ w.bits-is ∙ w.rotate_left-bits.ensures ∙ rw (w.if-self.true, c.first_bits-first.ensures, c.rest.ensures)
      | else-self w ↦ w.bits-is ∙ rw (w.if-self.false, c.first_bits-first.ensures, c.rest.ensures)
    ] in
    rw (made, c.if-self-2.true) (bits_placed true s.odd n (omega arith))

pub returns-else-self-2 : goal.returns-else-self-2
unfolding bits_in
returns-else-self-2 c =
    let s = c.args.self in
    let n : ℕ = min (s.bytes - 8 * c.args.w) 8 in
    let made : c.if-self.bits ≡ turned w8 4 s.odd (2 ^ n - 1) =
    elim c.if-self.branch [
      | then-self w ↦ w.bits-is ∙ w.rotate_left-bits.ensures ∙ rw (w.if-self.true, c.first_bits-first.ensures, c.rest.ensures)
      | else-self w ↦ w.bits-is ∙ rw (w.if-self.false, c.first_bits-first.ensures, c.rest.ensures)
    ] in
    rw (made, c.if-self-2.false) (bits_placed false s.odd n (omega arith))
