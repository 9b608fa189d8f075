-- `listing::line::record_line` answers what the key call refuses, or its count with the flag and the texels. Assumes nothing.
use mathlib.Core.Path.{◌≡◌, ap, ◌∙◌}
use mathlib.Core.List.{List, ◌∷◌}
use Prim.Native.Nat.{ℕ}
use native.Mathlib.Omega.{arith}
use lib.ListN.{length, length-take, length-drop, length-replicate}
use Rattle.rules.specs.Tile.{bank_size}
use Rattle.rules.specs.Refusal.{Outcome}
use Rattle.rules.specs.Lister.{line_of, record_tile, record_mode, record_bank, record_line_to}
use Rattle.rdp.specs.View.{tile_of}
use Rattle.listing.proofs.Lines.{line_allowed, line_refused, line_done}
use Rattle.listing.proofs.line.record_line.Goals.{After-key}
use Rattle.listing.proofs.line.record_line.Goals as goal

-- what is shown of an outcome
abbrev shown : Outcome → List ℕ
shown o = o.refusal ∷ o.numbers

-- the record's bank is whole, and the key is cut into a whole buffer
whole : (c : After-key) → length (record_bank c.args.bytes.now) ≡ bank_size
whole c = simp (length-take, length-drop) (omega (arith, c.told-bytes))

room : (c : After-key) → length c.empty_key.result ≡ bank_size
room c = ap length c.empty_key.ensures ∙ length-replicate {A = ℕ} bank_size 0

-- the line of what was read is that of the record
read : (c : After-key) → line_of (tile_of c.record_tile-tile.result) c.record_mode-mode.result (record_bank c.args.bytes.now)
    ≡ line_of (record_tile c.args.bytes.now) (record_mode c.args.bytes.now) (record_bank c.args.bytes.now)
read c = rw (c.record_tile-tile.ensures, c.record_mode-mode.ensures)

pub returns-in_err-kept : goal.returns-in_err-kept
unfolding record_line_to
returns-in_err-kept c =
    let k = (goal.at.returns-in_err-kept c).After-key in
    ap shown (line_refused _ _ _ _ (whole k) (room k) _ _ _ c.from_residual.ensures.1 c.in_err-kept.ensures ∙ read k)

pub texel_count-requires : goal.texel_count-requires
texel_count-requires c =
    let k = (goal.at.texel_count-requires c).After-key in
    let a = line_allowed _ _ _ _ (whole k) (room k) _ _ c.in_ok-kept.ensures in
    (a.inside.width, a.inside.height)

pub returns : goal.returns
unfolding record_line_to
returns c =
    let k = (goal.at.returns c).After-key in
    let flag = c.from_tile-sampling.ensures.lookup_value in
    ap shown (line_done _ _ _ _ (whole k) (room k) _ _ c.in_ok-kept.ensures _ _ flag c.texel_count.ensures ∙ read k)
