-- `decoder::source_row::SourceRow::texel` is what the function of its format's reads ensures. Assumes nothing.
use Rattle.decoder.proofs.Formats.{only_rgba32}
use native.Mathlib.Omega.{arith}
use Rattle.decoder.proofs.source_row.SourceRow.texel.Goals as goal

pub rgba32_texel-requires-clause-format_is : goal.rgba32_texel-requires-clause-format_is
rgba32_texel-requires-clause-format_is c = only_rgba32 c.args.self.format (omega arith) (omega arith)
