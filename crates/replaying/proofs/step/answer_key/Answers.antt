-- `replaying::step::answer_key` answers the count of the key that it cuts. A picture passes the tests of a key's call, so that it is
-- not refused. Assumes nothing.
use mathlib.Core.Path.{◌≡◌, refl, ap, sym, ◌∙◌}
use mathlib.Core.List.{List, [], ◌∷◌}
use Prim.Native.Nat.{ℕ}
use lib.ListN.{length, length-replicate}
use Rattle.std.specs.Prelude.{Result, Ok, Err, IsOk}
use Rattle.rules.specs.Tile.{bank_size}
use Rattle.rdp.specs.View.{tile_of, answered}
use Rattle.rdp.specs.declared.refusal.Refusal.{Refusal}
use Rattle.rdp.proofs.Refusals.{numbered}
use Rattle.rules.specs.Calls.{key_call}
use Rattle.rules.specs.Key.{kept_count}
use Rattle.key.proofs.Called.{called_refusal, called_count}
use Rattle.texdec.specs.declared.pair.Picture.{Picture}
use Rattle.replaying.proofs.Pictures.{picture_passes}
use Rattle.replaying.proofs.step.answer_key.Goals.{After-key-cut}
use Rattle.replaying.proofs.step.answer_key.Goals as goal

module _ (bank out left : List ℕ) (p : Picture) (whole : length bank ≡ bank_size) (room : length out ≡ bank_size) where
  not_refused : (x : Result ℕ Refusal) → answered x (left ∷ []) ≡ key_call bank (tile_of p.tile) p.tlut p.lane out → IsOk x
  not_refused (Ok n) e = refl
  not_refused (Err f) e =
      absurd (numbered f (called_refusal bank (tile_of p.tile) p.tlut p.lane out whole room _ _ left e ∙ picture_passes p))

  counts : (x : Result ℕ Refusal) (n : ℕ) → answered x (left ∷ []) ≡ key_call bank (tile_of p.tile) p.tlut p.lane out → x ≡ Ok n
      → n ≡ kept_count (tile_of p.tile) p.tlut p.lane bank
  counts x n e k =
      let answer = sym (ap (λ (y : Result ℕ Refusal). answered y (left ∷ [])) k) ∙ e in
      called_count bank (tile_of p.tile) p.tlut p.lane out whole room _ _ left answer (picture_passes p)

room : (c : After-key-cut) → length c.empty_key.result ≡ bank_size
room c = ap length c.empty_key.ensures ∙ length-replicate {A = ℕ} bank_size 0

pub unwrap-requires : goal.unwrap-requires
unwrap-requires c =
    not_refused _ _ _ c.args.picture c.told-bank (room (goal.at.unwrap-requires c).After-key-cut) _ c.key-cut.ensures

pub returns-clause-count : goal.returns-clause-count
returns-clause-count c =
    counts _ _ _ c.args.picture c.told-bank (room (goal.at.returns-clause-count c).After-key-cut) _ _ c.key-cut.ensures c.unwrap.ensures
