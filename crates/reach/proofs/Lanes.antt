-- The lane map is a table of bytes, and eight slots make one of them.
use mathlib.Core.Path.{◌≡◌, refl, ap, sym, ◌∙◌}
use mathlib.Core.Bool.{Bool, true, false, cond}
use mathlib.Core.List.{List, [], ◌∷◌, ◌++◌, append_assoc, append-nil}
use Prim.Native.Nat.{ℕ, zero, suc, ◌+◌, ◌-◌, ◌*◌, ◌%◌, ◌^◌, ◌<◌, ◌≤◌}
use native.Mathlib.Numerals.{add-one}
use native.Mathlib.Omega.{arith}
use lib.Bits.{bit_or, or_zero_l, or_zero_r}
use lib.ListN.{length, replicate}
use Rattle.rules.specs.Base.{tab, tab_from, concat, marks}
use Rattle.rules.specs.Tile.{lane_map_size}
use Rattle.rules.specs.Reach.{uneven, uneven_slots, lane_map}
use Rattle.rules.proofs.Tables.{tab-more, tab-cut, length-tab, concat-append}
use Rattle.rules.proofs.Maps.{marks-append}
use Rattle.reach.specs.Words.{joined}
use Rattle.reach.specs.Slots.{slot_bit, slots_byte}
use Rattle.reach.proofs.Bytes.{bit_shifted, joined_none, joined-more, marked_word}
use Rattle.reach.proofs.Words.{part_marks}

-- the rule's list of slot j
abbrev marks_of : List ℕ → ℕ → List ℕ
marks_of bank j = cond (uneven bank j) (j ∷ []) []

-- a zero byte takes the bits that it is joined with
at_end : (l r : List ℕ) (b : ℕ) → joined (l ++ (0 ∷ r)) (length l) b ≡ l ++ (b ∷ r)
unfolding joined
at_end [] r b = ap (λ v. v ∷ r) (or_zero_l b)
at_end (x ∷ l) r b = ap (λ k. x ∷ k) (at_end l r b)

module _ (bank : List ℕ) where
  -- the first n bytes of the lane map, and those after them still zero
  abbrev written : ℕ → List ℕ
  written n = tab n (slots_byte bank) ++ replicate (lane_map_size - n) 0

  next_byte : (n : ℕ) → n < lane_map_size → joined (written n) n (slots_byte bank n) ≡ written (suc n)
  next_byte n h =
      let left : lane_map_size - n ≡ suc (lane_map_size - suc n) = omega arith in
      let done = tab n (slots_byte bank) in
      let rest : List ℕ = replicate (lane_map_size - suc n) 0 in
      rw left
      (ap (λ k. joined (done ++ (0 ∷ rest)) k (slots_byte bank n)) (sym (length-tab n (slots_byte bank)))
      ∙ at_end done rest (slots_byte bank n)
      ∙ sym (append_assoc done (slots_byte bank n ∷ []) rest)
      ∙ ap (λ l. l ++ rest) (sym (rw add-one at (tab-more n (slots_byte bank)))))

  slot_marks : (i k : ℕ) → k < 8 → (m : List ℕ) → marks m (marks_of bank (8 * i + k)) ≡ joined m i (slot_bit bank (8 * i + k))
  unfolding marks slot_bit
  slot_marks i k h m =
      let bit : (8 * i + k) % 8 ≡ k = omega arith in
      rw bit (go (uneven bank (8 * i + k)))
    where
      go : (b : Bool) → marks m (cond b ((8 * i + k) ∷ []) []) ≡ joined m i (cond b (2 ^ k) 0)
      go true = marked_word m i k h
      go false = sym (joined_none m i)

  -- a slot that is uneven sets its bit in the byte of eight, and another leaves the byte
  pub next_slot : (i k bits : ℕ) → k < 8 → cond (uneven bank (8 * i + k)) (bit_or bits (1 * 2 ^ k % 2 ^ 8)) bits
      ≡ bit_or bits (slot_bit bank (8 * i + k))
  unfolding slot_bit
  next_slot i k bits h =
      let bit : (8 * i + k) % 8 ≡ k = omega arith in
      rw (bit, bit_shifted k 8 h) (go (uneven bank (8 * i + k)))
    where
      go : (b : Bool) → cond b (bit_or bits (2 ^ k)) bits ≡ bit_or bits (cond b (2 ^ k) 0)
      go true = refl
      go false = sym (or_zero_r bits)

  -- eight slots more are one byte more
  slots_marks : (m : List ℕ) (n : ℕ) → marks m (concat (tab (8 * n + 8) (marks_of bank)))
      ≡ joined (marks m (concat (tab (8 * n) (marks_of bank)))) n (slots_byte bank n)
  unfolding slots_byte
  slots_marks m n =
      rw (tab-cut (8 * n) 8 (marks_of bank), concat-append, marks-append)
      (part_marks (λ l. joined l n) (λ l. joined_none l n) (λ l. joined-more l n) (λ k. marks_of bank (8 * n + k))
      (λ k. slot_bit bank (8 * n + k)) _ 8 (slot_marks n))

  lanes_to : (n : ℕ) → n ≤ lane_map_size → marks (written 0) (concat (tab (8 * n) (marks_of bank))) ≡ written n
  unfolding tab tab_from concat marks
  lanes_to zero h = refl
  lanes_to (suc n) h =
      let long : 8 * suc n ≡ 8 * n + 8 = omega arith in
      rw long
      (slots_marks (written 0) n
      ∙ ap (λ l. joined l n (slots_byte bank n)) (lanes_to n (omega arith))
      ∙ next_byte n h)

  pub lane_table : lane_map bank ≡ tab lane_map_size (slots_byte bank)
  unfolding lane_map uneven_slots tab tab_from
  lane_table = lanes_to lane_map_size (omega arith) ∙ append-nil (tab lane_map_size (slots_byte bank))
