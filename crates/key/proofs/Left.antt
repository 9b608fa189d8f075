-- Document 02's items 4 and 13: a key made whole, as before item 4, of a tile that repeats is left over at the first byte past the visible
-- part that is not zero, and right where there is none.
use mathlib.Core.Path.{◌≡◌, refl, sym, ◌∙◌}
use mathlib.Core.Bool.{Bool, true, false, cond, true≢false}
use mathlib.Core.List.{List, [], ◌∷◌}
use Prim.Native.Nat.{ℕ, ◌+◌, ◌<◌, ◌≤◌}
use native.Mathlib.Omega.{arith}
use native.Mathlib.Decide.{ℕ_discrete, dec_lt}
use lib.ListN.{length, get_or, get_or-eq_default}
use lib.Seq.{ext_get_or}
use Rattle.rules.specs.Base.{mem, odd}
use Rattle.rules.specs.Tile.{Tile, bank_size}
use Rattle.rules.specs.Sampling.{flag}
use Rattle.rules.specs.Reading.{Reading, trail, up_to}
use Rattle.rules.specs.Picture.{column, row_start, texel, paletted, plain_row, plain, picture, visible_picture}
use Rattle.rules.specs.Key.{key_of, key}
use Rattle.rules.specs.Check.{checked}
use Rattle.rules.proofs.Keys.{length-key, key-byte}
use Rattle.rules.proofs.Visible.{side-le}
use Rattle.rules.proofs.Check.{yes_means, left_over_means, no_at}
use Rattle.key.proofs.Lift.{found}
use Rattle.key.proofs.Period.{covered}

-- what a grid of readings reads, a larger one reads
grid_among : (f : ℕ → ℕ → Reading) (b : List ℕ) (n m w v a : ℕ) → n ≤ m → w ≤ v
    → mem a (trail (up_to n (λ y. up_to w (f y))) b) ≡ true → mem a (trail (up_to m (λ y. up_to v (f y))) b) ≡ true
grid_among f b n m w v a p q h =
    let row = found (λ y. up_to w (f y)) b n a h in
    let col = found (f row.at) b w a row.reads in
    covered (λ y. up_to v (f y)) b m row.at a (omega (arith, row.inside))
    (covered (f row.at) b v col.at a (omega (arith, col.inside)) col.reads)

module _ (t : Tile) (mode lane : ℕ) (bank : List ℕ) where
  -- the whole picture reads what its visible part reads
  pub visible_among : (a : ℕ) → mem a (trail (visible_picture t mode lane) bank) ≡ true → mem a (trail (picture t mode lane) bank) ≡ true
  unfolding visible_picture picture plain plain_row texel paletted
  visible_among a = go (flag t mode) refl
    where
      go : (u : Bool) → flag t mode ≡ u → mem a (trail (visible_picture t mode lane) bank) ≡ true
          → mem a (trail (picture t mode lane) bank) ≡ true
      go true e = rw (visible_picture, picture, e) (λ h. h)
      go false e =
          rw (visible_picture, picture, e)
          (grid_among (λ y x. texel t mode lane (odd y) (row_start t y + column t mode x) x) bank _ _ _ _ a
          (side-le t.cmt t.maskt t.height) (side-le t.cms t.masks t.width))

-- a byte past the visible part that is not zero: the whole picture reads it, the visible one does not
pub record Past (t : Tile) (mode lane : ℕ) (bank : List ℕ) (a : ℕ) : Type 0 where
  pub reads : mem a (trail (picture t mode lane) bank) ≡ true
  pub hidden : mem a (trail (visible_picture t mode lane) bank) ≡ false
  pub not_zero : get_or bank a 0 ≡ 0 → ⊥

module _ (t : Tile) (mode lane : ℕ) (bank : List ℕ) (n : length bank ≡ bank_size) where
  whole_byte : (a : ℕ) → get_or (key_of (picture t mode lane) bank) a 0
      ≡ cond (mem a (trail (picture t mode lane) bank)) (get_or bank a 0) 0
  whole_byte a = key-byte (picture t mode lane) bank a n

  right_byte : (a : ℕ) → get_or (key t mode lane bank) a 0 ≡ cond (mem a (trail (visible_picture t mode lane) bank)) (get_or bank a 0) 0
  unfolding key
  right_byte a = key-byte (visible_picture t mode lane) bank a n

  -- the two keys have the same byte where it is no such byte
  same_unless_past : (a : ℕ) → (Past t mode lane bank a → ⊥)
      → get_or (key_of (picture t mode lane) bank) a 0 ≡ get_or (key t mode lane bank) a 0
  same_unless_past a no_past =
      rw (whole_byte a, right_byte a)
      (go (mem a (trail (picture t mode lane) bank)) refl (mem a (trail (visible_picture t mode lane) bank)) refl
      (ℕ_discrete (get_or bank a 0) 0))
    where
      go : (u : Bool) → mem a (trail (picture t mode lane) bank) ≡ u → (v : Bool) → mem a (trail (visible_picture t mode lane) bank) ≡ v
          → Dec (get_or bank a 0 ≡ 0) → cond u (get_or bank a 0) 0 ≡ cond v (get_or bank a 0) 0
      go true e true f d = refl
      go false e false f d = refl
      go false e true f d = absurd (true≢false (sym (visible_among t mode lane bank a f) ∙ e))
      go true e false f (yes z) = z
      go true e false f (no z) = absurd (no_past (record { reads = e; hidden = f; not_zero = z }))

  pub whole_left_over : (a : ℕ) → Past t mode lane bank a → ((k : ℕ) → k < a → Past t mode lane bank k → ⊥)
      → checked t mode lane bank (key_of (picture t mode lane) bank) ≡ 0 ∷ a ∷ 2 ∷ []
  whole_left_over a p least =
      no_at t mode lane bank (key_of (picture t mode lane) bank) (length-key (picture t mode lane) bank) a
      (record {
        inside = inside (dec_lt a bank_size);
        below = λ k h. same_unless_past k (least k h);
        wrong = λ e. p.not_zero (sym offered ∙ e ∙ right_byte a ∙ rw p.hidden);
      })
      ∙ rw (p.hidden, (left_over_means false (get_or bank a 0) _).1 (refl, λ e. p.not_zero (sym offered ∙ e)))
    where
      offered : get_or (key_of (picture t mode lane) bank) a 0 ≡ get_or bank a 0
      offered = whole_byte a ∙ rw p.reads

      inside : Dec (a < bank_size) → a < bank_size
      inside (yes h) = h
      inside (no h) = absurd (p.not_zero (get_or-eq_default bank 0 (omega arith)))

  pub whole_right : ((k : ℕ) → Past t mode lane bank k → ⊥) → checked t mode lane bank (key_of (picture t mode lane) bank) ≡ 1 ∷ 0 ∷ 0 ∷ []
  unfolding key
  whole_right none =
      (yes_means t mode lane bank (key_of (picture t mode lane) bank) (length-key (picture t mode lane) bank)).1
      (ext_get_or 0 (key_of (picture t mode lane) bank) (key t mode lane bank)
      (length-key (picture t mode lane) bank ∙ sym (length-key (visible_picture t mode lane) bank))
      (λ k h. same_unless_past k (none k)))
