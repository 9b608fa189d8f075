-- Two pictures of one tile, mode and lane are one: what a picture is known to keep has one proof at most.
use mathlib.Core.Path.{◌≡◌, ap, sym, ◌∙◌, subst}
use Prim.Native.Nat.{ℕ, ◌≤◌}
use Rattle.std.proofs.Props.{props}
use Rattle.std.specs.Prelude.{true, Result, Ok, Err, IfOk}
use Rattle.rules.specs.Tile.{InRange}
use Rattle.rules.specs.Texdec.{accepted}
use Rattle.rdp.specs.Refused.{refusal_of}
use Rattle.rdp.specs.View.{tile_of}
use Rattle.rdp.specs.declared.refusal.Refusal.{Refusal}
use Rattle.rdp.proofs.Refusals.{numbered, same_number}
use Rattle.rdp.specs.declared.tile.TileDescriptor.{TileDescriptor}
use Rattle.texdec.specs.declared.pair.Picture.{Picture}

-- a value with what is known of it
module _ {A : Type 0} {F : A → Type 0} (one : (x : A) → IsProp (F x)) where
  same : (x y : A) → x ≡ y → (f : F x) (g : F y) → Path ((z : A) × F z) (x, f) (y, g)
  same x y e f g = subst (λ y. (g : F y) → Path ((z : A) × F z) (x, f) (y, g)) e (λ g. ap (λ h. (x, h)) (one x f g)) g

Kept : TileDescriptor × (ℕ × ℕ) → Type 0
Kept a = InRange (tile_of a.0) × ((a.1.0 ≤ 3) × ((a.1.1 ≤ 3) × (accepted a.1.0 a.0.fmt a.0.siz ≡ true)))

kept_once : (a : TileDescriptor × (ℕ × ℕ)) → IsProp (Kept a)
unfolding Kept
kept_once a = hlevel props

made : ((a : TileDescriptor × (ℕ × ℕ)) × Kept a) → Picture
unfolding Kept
made x =
    record {
      tile = x.0.0;
      tlut = x.0.1.0;
      lane = x.0.1.1;
      in_range = x.1.0;
      tlut_bound = x.1.1.0;
      lane_bound = x.1.1.1.0;
      pair_accepted = x.1.1.1.1;
    }

pub same_picture : (p q : Picture) → p.tile ≡ q.tile → p.tlut ≡ q.tlut → p.lane ≡ q.lane → p ≡ q
unfolding Kept made
same_picture p q a b c =
    ap made (same kept_once (p.tile, (p.tlut, p.lane)) (q.tile, (q.tlut, q.lane)) (λ i. (a i, (b i, c i)))
    (p.in_range, (p.tlut_bound, (p.lane_bound, p.pair_accepted))) (q.in_range, (q.tlut_bound, (q.lane_bound, q.pair_accepted))))

-- Two answers with one refusal's number are one, where each picture among them is of that tile, mode and lane.
pub same_answer : (n : ℕ) (t : TileDescriptor) (mode lane : ℕ) (r s : Result Picture Refusal) → refusal_of r ≡ n → refusal_of s ≡ n
    → IfOk r (λ p. (p.tile ≡ t) × (p.tlut ≡ mode) × (p.lane ≡ lane))
    → IfOk s (λ p. (p.tile ≡ t) × (p.tlut ≡ mode) × (p.lane ≡ lane)) → r ≡ s
same_answer n t mode lane (Ok p) (Ok q) e f k l =
    ap Ok (same_picture p q (k.0 ∙ sym l.0) (k.1 ∙ sym l.1) (k.2 ∙ sym l.2))
same_answer n t mode lane (Ok p) (Err g) e f k l = absurd (numbered g (f ∙ sym e))
same_answer n t mode lane (Err g) (Ok q) e f k l = absurd (numbered g (e ∙ sym f))
same_answer n t mode lane (Err g) (Err h) e f k l = ap Err (same_number g h (e ∙ sym f))
