-- `replaying::asks::key_in` names the record's picture. Assumes nothing.
use mathlib.Core.Path.{ap, ◌∙◌}
use Rattle.rules.specs.Lister.{record_tile, record_mode}
use Rattle.replaying.proofs.Says.{says_key}
use Rattle.replaying.proofs.asks.key_in.Goals as goal

pub returns : goal.returns
returns c =
    let tile = c.record_tile.ensures ∙ ap record_tile c.head_in-head.ensures in
    let mode = c.record_mode.ensures ∙ ap record_mode c.head_in-head.ensures in
    record {
      refused = rw (← tile, ← mode, ← c.byte_at.ensures) c.new.ensures.refused;
      said = says_key _ _ _ _ _ tile mode c.byte_at.ensures c.requires c.new.ensures.kept;
    }
