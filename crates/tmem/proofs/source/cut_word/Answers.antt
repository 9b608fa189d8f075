-- `tmem::source::cut_word` fills up the source's rest with zeros. Assumes nothing.
use mathlib.Core.Path.{ap, ◌∙◌}
use mathlib.Core.Bool.{false}
use mathlib.Core.List.{◌++◌}
use native.Mathlib.Omega.{arith}
use lib.ListN.{length, drop}
use Rattle.tmem.specs.Part.{place_of}
use Rattle.tmem.proofs.PastEnd.{word_past}
use Rattle.tmem.proofs.Taken.{zeros, filled_up, kept_as_one}
use Rattle.tmem.proofs.source.cut_word.Goals as goal

pub returns : goal.returns
returns c =
    let s = c.args.rest.now in
    record {
      bytes_are =
          kept_as_one s (place_of 0 false) _ _ c.type_inv.rest
          (ap (λ l. l ++ drop (length s) zeros) c.copy_from_slice.ensures.after ∙ filled_up s c.requires) c.from_le_bytes.ensures;
      made_up_is = omega (arith, word_past (length s) 0);
    }
