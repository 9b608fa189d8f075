-- `decoder::painter::Painter::texel` is the rule's texel, through the lookup table or without. Assumes nothing.
use Rattle.rules.proofs.Formats.{texel-tlut, texel-direct}
use Rattle.decoder.proofs.painter.Painter.texel.Goals as goal

pub returns-in-Direct : goal.returns-in-Direct
returns-in-Direct c =
    let k = rw c.in-Direct.is at c.args.self.is in
    rw (texel-direct _ _ _ _ _ _ k.0, ← k.1, ← c.bytes-base.ensures) c.direct_texel.ensures

pub returns-in-Rgba16By : goal.returns-in-Rgba16By
returns-in-Rgba16By c =
    let k = rw c.in-Rgba16By.is at c.args.self.is in
    rw (texel-direct _ _ _ _ _ _ k.0, ← k.1, ← c.bytes-base.ensures) c.rgba16_by.ensures

pub returns-in-Ia4By : goal.returns-in-Ia4By
returns-in-Ia4By c =
    let k = rw c.in-Ia4By.is at c.args.self.is in
    rw (texel-direct _ _ _ _ _ _ k.0, ← k.1, ← c.bytes-base.ensures) c.ia4_by.ensures

pub returns-in-Ia8By : goal.returns-in-Ia8By
returns-in-Ia8By c =
    let k = rw c.in-Ia8By.is at c.args.self.is in
    rw (texel-direct _ _ _ _ _ _ k.0, ← k.1, ← c.bytes-base.ensures) c.ia8_by.ensures

pub returns-in-Entry : goal.returns-in-Entry
returns-in-Entry c =
    let k = rw c.in-Entry.is at c.args.self.is in
    rw (texel-tlut _ _ _ _ _ _ k.0) c.entry_texel.ensures

pub returns-in-EntryBy : goal.returns-in-EntryBy
returns-in-EntryBy c =
    let k = rw c.in-EntryBy.is at c.args.self.is in
    rw (texel-tlut _ _ _ _ _ _ k.0) c.entry_by.ensures

pub returns-in-HalvesBy : goal.returns-in-HalvesBy
returns-in-HalvesBy c =
    let k = rw c.in-HalvesBy.is at c.args.self.is in
    rw (texel-tlut _ _ _ _ _ _ k.0) c.halves_by.ensures
