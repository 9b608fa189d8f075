-- Document 02's item 13: the answer is yes exactly for the right key; on a no every lower address is right and the address itself is not;
-- each kind is its sentence; and the key call's own key is right.
use mathlib.Core.Path.{◌≡◌, refl, ap, sym, ◌∙◌}
use mathlib.Core.Bool.{Bool, true, false, cond, not, true≢false}
use mathlib.Core.List.{List, [], ◌∷◌}
use mathlib.Core.Logic.{◌↔◌, ◌⊎◌, inl, inr}
use Prim.Native.Nat.{ℕ, zero, suc, ◌+◌, ◌<◌}
use native.Mathlib.Omega.{arith}
use native.Mathlib.Decide.{dec_lt}
use lib.Dec.{eqb}
use lib.ListN.{length, get_or}
use lib.Seq.{ext_get_or}
use borrow.Author.Tests.{eqb-true, eqb-false, eq-eqb, ne_eqb, not-true, not-false}
use Rattle.rules.specs.Base.{one, mem}
use Rattle.rules.specs.Tile.{Tile, bank_size}
use Rattle.rules.specs.Reading.{trail}
use Rattle.rules.specs.Picture.{visible_picture}
use Rattle.rules.specs.Key.{key, kept_count}
use Rattle.rules.specs.Check.{Lowest, wrong_at, lowest_wrong, missing, left_over, wrong_kind, checked}
use Rattle.rules.specs.Refusal.{Outcome, first}
use Rattle.rules.specs.Calls.{key_tests, key_call, check_call}
use Rattle.rules.proofs.Keys.{length-key, key-byte}
use Rattle.rules.proofs.Ranges.{both}
use Rattle.rules.proofs.Refused.{Passed, numbered, passed, first_next, done_is}

-- there is one alone
pub lowest_one : {i n : ℕ} {f : ℕ → Bool} {a b : ℕ} → Lowest i n f a → Lowest i n f b → a ≡ b
lowest_one {i} {n} {f} {a} {b} p q = go (dec_lt a b) (dec_lt b a)
  where
    apart : {c d : ℕ} → Lowest i n f c → Lowest i n f d → c < d → ⊥
    apart {c} {d} r s h = true≢false (sym (r.holds (omega (arith, s.to))) ∙ s.below c r.from h)

    go : Dec (a < b) → Dec (b < a) → a ≡ b
    go (yes h) k = absurd (apart p q h)
    go (no h) (yes k) = absurd (apart q p k)
    go (no h) (no k) = omega arith

-- of two functions that agree there it is the same one
pub lowest_same : {i n : ℕ} {f g : ℕ → Bool} {a : ℕ} → ((k : ℕ) → k < i + n → f k ≡ g k) → Lowest i n f a → Lowest i n g a
lowest_same {a = a} e p =
    record {
      below = λ k h l. sym (e k (omega (arith, p.to))) ∙ p.below k h l;
      from = p.from;
      to = p.to;
      holds = λ h. sym (e a h) ∙ p.holds h;
    }

-- the lowest wrong address is the lowest at which the offer is wrong
pub lowest_wrong_lem : (right offer : List ℕ) → length right ≡ length offer
    → Lowest 0 (length right) (wrong_at right offer) (lowest_wrong right offer)
unfolding lowest_wrong
lowest_wrong_lem [] offer e =
    record { below = λ k h l. absurd (omega arith); from = omega arith; to = omega arith; holds = λ h. absurd (omega arith) }
lowest_wrong_lem (x ∷ right) [] e = absurd (omega arith)
lowest_wrong_lem (x ∷ right) (y ∷ offer) e = go (eqb x y) refl (lowest_wrong_lem right offer (omega arith))
  where
    go : (b : Bool) → eqb x y ≡ b → Lowest 0 (length right) (wrong_at right offer) (lowest_wrong right offer)
        → Lowest 0 (suc (length right)) (wrong_at (x ∷ right) (y ∷ offer)) (cond b (suc (lowest_wrong right offer)) 0)
    go true q r =
        record {
          below = λ k h l. at k l;
          from = omega arith;
          to = omega (arith, r.to);
          holds = λ h. r.holds (omega arith);
        }
      where
        at : (k : ℕ) → k < suc (lowest_wrong right offer) → wrong_at (x ∷ right) (y ∷ offer) k ≡ false
        at zero l = ap not q
        at (suc k) l = r.below k (omega arith) (omega arith)
    go false q r =
        record { below = λ k h l. absurd (omega arith); from = omega arith; to = omega arith; holds = λ h. ap not q }

-- the offer's byte is the right one where it is not wrong, and only there
right_at : (right offer : List ℕ) (a : ℕ) → wrong_at right offer a ≡ false → get_or right a 0 ≡ get_or offer a 0
right_at right offer a e = eqb-true _ _ (not-false _ e)

wrong_at_lem : (right offer : List ℕ) (a : ℕ) → wrong_at right offer a ≡ true → get_or right a 0 ≡ get_or offer a 0 → ⊥
wrong_at_lem right offer a e = eqb-false _ _ (not-true _ e)

-- "Missing: it is kept and not zero in the bank but zero in the offer."
abbrev pub Missing : Bool → ℕ → ℕ → Type 0
Missing is_kept in_bank in_offer = (is_kept ≡ true) × (in_bank ≡ 0 → ⊥) × (in_offer ≡ 0)

-- "Left over: it is not kept and the offer is not zero there."
abbrev pub LeftOver : Bool → ℕ → Type 0
LeftOver is_kept in_offer = (is_kept ≡ false) × (in_offer ≡ 0 → ⊥)

-- the kind by the two tests
abbrev kind_by : Bool → Bool → ℕ
kind_by is_missing is_left_over = cond is_missing 1 (cond is_left_over 2 3)

-- Each kind is given exactly where its sentence holds.
module _ (is_kept : Bool) (in_bank in_offer : ℕ) where
  pub missing_means : (wrong_kind is_kept in_bank in_offer ≡ 1) ↔ Missing is_kept in_bank in_offer
  unfolding wrong_kind
  missing_means = (λ e. there (picked (missing is_kept in_bank in_offer) (left_over is_kept in_offer) e), back)
    where
      picked : (m l : Bool) → kind_by m l ≡ 1 → m ≡ true
      picked true l e = refl
      picked false true e = absurd (omega arith)
      picked false false e = absurd (omega arith)

      there : missing is_kept in_bank in_offer ≡ true → Missing is_kept in_bank in_offer
      there e =
          let p = both _ _ e in
          let q = both _ _ p.0 in
          (q.0, eqb-false _ _ (not-true _ q.1), eqb-true _ _ p.1)

      back : Missing is_kept in_bank in_offer → wrong_kind is_kept in_bank in_offer ≡ 1
      back m = rw (m.0, ne_eqb _ _ m.1, eq-eqb _ _ m.2)

  pub left_over_means : (wrong_kind is_kept in_bank in_offer ≡ 2) ↔ LeftOver is_kept in_offer
  unfolding wrong_kind
  left_over_means = (λ e. there (picked (missing is_kept in_bank in_offer) (left_over is_kept in_offer) e), back)
    where
      picked : (m l : Bool) → kind_by m l ≡ 2 → l ≡ true
      picked true l e = absurd (omega arith)
      picked false true e = refl
      picked false false e = absurd (omega arith)

      there : left_over is_kept in_offer ≡ true → LeftOver is_kept in_offer
      there e = let p = both _ _ e in (not-true _ p.0, eqb-false _ _ (not-true _ p.1))

      back : LeftOver is_kept in_offer → wrong_kind is_kept in_bank in_offer ≡ 2
      back m = rw (m.0, ne_eqb _ _ m.1)

  -- there is no fourth
  three : (wrong_kind is_kept in_bank in_offer ≡ 1) ⊎ ((wrong_kind is_kept in_bank in_offer ≡ 2) ⊎
      (wrong_kind is_kept in_bank in_offer ≡ 3))
  unfolding wrong_kind
  three = go (missing is_kept in_bank in_offer) (left_over is_kept in_offer)
    where
      go : (m l : Bool)
          → (kind_by m l ≡ 1) ⊎ ((kind_by m l ≡ 2) ⊎ (kind_by m l ≡ 3))
      go true l = inl refl
      go false true = inr (inl refl)
      go false false = inr (inr refl)

  -- "Every other difference is another value."
  pub another_means : (wrong_kind is_kept in_bank in_offer ≡ 3) ↔
      ((Missing is_kept in_bank in_offer → ⊥) × (LeftOver is_kept in_offer → ⊥))
  another_means = (there, back three)
    where
      there : wrong_kind is_kept in_bank in_offer ≡ 3 → (Missing is_kept in_bank in_offer → ⊥) × (LeftOver is_kept in_offer → ⊥)
      there e = (
        λ m. let f = missing_means.1 m in omega arith,
        λ m. let f = left_over_means.1 m in omega arith,
      )

      back : (wrong_kind is_kept in_bank in_offer ≡ 1) ⊎ ((wrong_kind is_kept in_bank in_offer ≡ 2) ⊎
          (wrong_kind is_kept in_bank in_offer ≡ 3))
          → (Missing is_kept in_bank in_offer → ⊥) × (LeftOver is_kept in_offer → ⊥) → wrong_kind is_kept in_bank in_offer ≡ 3
      back (inl e) n = absurd (n.0 (missing_means.0 e))
      back (inr (inl e)) n = absurd (n.1 (left_over_means.0 e))
      back (inr (inr e)) n = e

-- an address at which an offer is wrong, while it is right at every lower one
pub record FirstWrong (right offer : List ℕ) (a : ℕ) : Type 0 where
  pub inside : a < bank_size
  pub below : (k : ℕ) → k < a → get_or offer k 0 ≡ get_or right k 0
  pub wrong : get_or offer a 0 ≡ get_or right a 0 → ⊥

-- An offer against the right key, both of a key's length.
module _ (right offer : List ℕ) (n : length right ≡ bank_size) (m : length offer ≡ bank_size) where
  low : Lowest 0 bank_size (wrong_at right offer) (lowest_wrong right offer)
  low = rw n at (lowest_wrong_lem right offer (n ∙ sym m))

  -- no address is wrong exactly where the offer is the key
  none_wrong : (lowest_wrong right offer ≡ bank_size) ↔ (offer ≡ right)
  none_wrong = (there, λ e. back e (dec_lt (lowest_wrong right offer) bank_size))
    where
      there : lowest_wrong right offer ≡ bank_size → offer ≡ right
      there e =
          ext_get_or 0 offer right (m ∙ sym n) (λ a h. sym (right_at right offer a (low.below a (omega arith) (omega arith))))

      back : offer ≡ right → Dec (lowest_wrong right offer < bank_size) → lowest_wrong right offer ≡ bank_size
      back e (yes p) =
          absurd (wrong_at_lem right offer (lowest_wrong right offer) (low.holds p)
          (ap (λ l. get_or l (lowest_wrong right offer) 0) (sym e)))
      back e (no p) = omega (arith, low.to)

  -- where it is not the key there is such an address, and it is the lowest one
  first_wrong : (offer ≡ right → ⊥) → FirstWrong right offer (lowest_wrong right offer)
  first_wrong no_key =
      let apart : lowest_wrong right offer ≡ bank_size → ⊥ = λ e. no_key (none_wrong.0 e) in
      let p : lowest_wrong right offer < bank_size = omega (arith, low.to) in
      record {
        inside = p;
        below = λ k h. sym (right_at right offer k (low.below k (omega arith) h));
        wrong = λ e. wrong_at_lem right offer (lowest_wrong right offer) (low.holds p) (sym e);
      }

  wrong_lowest : (a : ℕ) → FirstWrong right offer a → a ≡ lowest_wrong right offer
  wrong_lowest a f =
      lowest_one
      (record {
        below = λ k p q. ap not (eq-eqb _ _ (sym (f.below k q)));
        from = omega arith;
        to = omega (arith, f.inside);
        holds = λ h. ap not (ne_eqb _ _ (λ e. f.wrong (sym e)));
      })
      low

-- What a check says of an offer of a key's length.
module _ (t : Tile) (mode lane : ℕ) (bank offer : List ℕ) (whole : length offer ≡ bank_size) where
  length_right : length (key t mode lane bank) ≡ bank_size
  unfolding key
  length_right = length-key (visible_picture t mode lane) bank

  -- "says yes exactly when that key is the right one under Item 4"
  pub yes_means : (checked t mode lane bank offer ≡ 1 ∷ 0 ∷ 0 ∷ []) ↔ (offer ≡ key t mode lane bank)
  unfolding checked
  yes_means = (
    λ e. none.0 (eqb-true _ _ (is_yes (eqb (lowest_wrong (key t mode lane bank) offer) bank_size) (ap (λ (l : List ℕ). get_or l 0 0) e))),
    λ e. rw (eq-eqb _ _ (none.1 e)),
  )
    where
      none : (lowest_wrong (key t mode lane bank) offer ≡ bank_size) ↔ (offer ≡ key t mode lane bank)
      none = none_wrong (key t mode lane bank) offer length_right whole

      is_yes : (b : Bool) → one b ≡ 1 → b ≡ true
      is_yes true e = refl
      is_yes false e = absurd (omega arith)

  -- "On a no it names the lowest wrong address": every lower one is right
  pub no_means : (offer ≡ key t mode lane bank → ⊥) → (a : ℕ) × FirstWrong (key t mode lane bank) offer a
  no_means n =
      (lowest_wrong (key t mode lane bank) offer, first_wrong (key t mode lane bank) offer length_right whole n)

  -- and that address is answered, with what is wrong there
  pub no_at : (a : ℕ) → FirstWrong (key t mode lane bank) offer a
      → checked t mode lane bank offer
      ≡ 0 ∷ a ∷ wrong_kind (mem a (trail (visible_picture t mode lane) bank)) (get_or bank a 0) (get_or offer a 0) ∷ []
  unfolding checked
  no_at a f =
      let apart : a ≡ bank_size → ⊥ = λ e. omega (arith, f.inside) in
      rw (← wrong_lowest (key t mode lane bank) offer length_right whole a f, ne_eqb a bank_size apart)

  -- another value is at a kept byte, and not zero
  pub another_kept : (a : ℕ) → FirstWrong (key t mode lane bank) offer a → length bank ≡ bank_size
      → wrong_kind (mem a (trail (visible_picture t mode lane) bank)) (get_or bank a 0) (get_or offer a 0) ≡ 3
      → (mem a (trail (visible_picture t mode lane) bank) ≡ true) × (get_or offer a 0 ≡ get_or bank a 0 → ⊥) × (get_or offer a 0 ≡ 0 → ⊥)
  unfolding key
  another_kept a f n e = go (mem a (trail (visible_picture t mode lane) bank)) refl
    where
      kept : Bool
      kept = mem a (trail (visible_picture t mode lane) bank)

      neither_kind : (Missing kept (get_or bank a 0) (get_or offer a 0) → ⊥) × (LeftOver kept (get_or offer a 0) → ⊥)
      neither_kind = (another_means kept (get_or bank a 0) (get_or offer a 0)).0 e

      right : get_or (key t mode lane bank) a 0 ≡ cond kept (get_or bank a 0) 0
      right = key-byte (visible_picture t mode lane) bank a n

      go : (b : Bool) → kept ≡ b → (kept ≡ true) × (get_or offer a 0 ≡ get_or bank a 0 → ⊥) × (get_or offer a 0 ≡ 0 → ⊥)
      go true k =
          let differs : get_or offer a 0 ≡ get_or bank a 0 → ⊥ = λ q. f.wrong (q ∙ sym (right ∙ rw k)) in
          (k, differs, λ z. neither_kind.0 (k, (λ q. differs (z ∙ sym q)), z))
      go false k = absurd (neither_kind.1 (k, λ z. f.wrong (z ∙ sym (right ∙ rw k))))

-- The key call's own key is right.
module _ (bank out : List ℕ) (t : Tile) (mode lane : ℕ) (z : first (key_tests bank t mode lane out) ≡ 0) where
  left_key : get_or (key_call bank t mode lane out).buffers 0 [] ≡ key t mode lane bank
  unfolding key_call
  left_key =
      ap (λ (o : Outcome). get_or o.buffers 0 [])
      (sym (done_is (key_tests bank t mode lane out) (kept_count t mode lane bank ∷ []) (key t mode lane bank ∷ []) (out ∷ []) z))

  -- it is not refused either
  taken : first (key_tests bank t mode lane (key t mode lane bank)) ≡ 0
  unfolding Passed key
  taken =
      let p = passed (key_tests bank t mode lane out) (numbered (key_tests bank t mode lane out) refl) z in
      let pairs = sym (first_next _ _ p.0 ∙ first_next _ _ p.1.0) ∙ z in
      let room = ap not (eq-eqb _ _ (length-key (visible_picture t mode lane) bank)) in
      first_next _ _ p.0 ∙ first_next _ _ room ∙ pairs

  pub own_key : check_call bank t mode lane (get_or (key_call bank t mode lane out).buffers 0 [])
      ≡ record { refusal = 0; numbers = 1 ∷ 0 ∷ 0 ∷ []; buffers = [] }
  unfolding check_call key
  own_key =
      let is_yes = (yes_means t mode lane bank (key t mode lane bank) (length-key (visible_picture t mode lane) bank)).1 refl in
      rw (left_key, ← is_yes)
      (sym (done_is (key_tests bank t mode lane (key t mode lane bank)) (checked t mode lane bank (key t mode lane bank)) [] [] taken))
