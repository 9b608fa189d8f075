-- `reach::reason::is_clear` tests the bytes of a word in one number.
use Rattle.reach.proofs.Asked.{clear_word}
use Rattle.reach.proofs.reason.is_clear.Goals as goal

pub returns : goal.returns
returns c h =
    let a = c.args in
    clear_word _ a.span a.w c.fits-reasons (rw (← c.word.ensures.0, ← c.word.ensures.1, ← c.eight.ensures) (c.is_zero.ensures h))
