-- `tile_sampling::sampling::past_size` is the rule's test: its last part is what `exceeds` says. Assumes nothing.
use mathlib.Core.Path.{sym, ◌∙◌}
use Rattle.tile_sampling.proofs.sampling.past_size.Goals as goal

pub returns-then-repeats : goal.returns-then-repeats
returns-then-repeats c = rw (c.exceeds.ensures, sym c.repeats.ensures ∙ c.if-repeats.true)

pub returns : goal.returns
returns c = rw (sym c.repeats.ensures ∙ c.if-repeats.false)
