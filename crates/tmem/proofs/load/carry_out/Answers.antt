-- `tmem::load::carry_out` carries out what is asked. Assumes nothing.
use mathlib.Core.Path.{ap, sym, ◌∙◌}
use borrow.Author.Rules.{rules}
use Rattle.tmem.proofs.Carry.{apart}
use Rattle.tmem.proofs.load.carry_out.Goals as goal

pub returns : goal.returns
returns c =
    let counted = c.write.ensures in
    let done = apart counted in
    let bank = sym (ap (λ x. x.ghost_name) counted.carried.bank_is) in
    let map = sym (ap (λ x. x.ghost_name) counted.carried.map_is) in
    let reasons = sym (ap (λ x. x.ghost_name) counted.carried.reasons_is) in
    record {
      bank_is = search (rules, bank) ∙ done.bank_is;
      map_is = search (rules, map) ∙ done.map_is;
      reasons_is = search (rules, reasons) ∙ done.reasons_is;
      tally_is = done.tally_is;
    }
