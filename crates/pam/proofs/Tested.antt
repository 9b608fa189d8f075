-- The tests of reading, by what was gathered, are the rule's.
use mathlib.Core.Path.{◌≡◌, refl, ap, sym, ◌∙◌}
use mathlib.Core.Bool.{Bool, true, false, cond, not, ◌&&◌, ◌||◌}
use mathlib.Core.List.{List, [], ◌∷◌}
use Prim.Native.Nat.{ℕ, ◌+◌, ◌-◌, ◌≤◌}
use native.Mathlib.Omega.{arith}
use lib.Dec.{eqb, ltb}
use lib.ListN.{length, take, drop}
use borrow.Author.Tests.{ltb-false}
use Rattle.std.specs.Prelude.{Option, Some, None}
use Rattle.rules.specs.Base.{over}
use Rattle.rules.specs.Tile.{side_limit, sides_outside}
use Rattle.rules.specs.Refusal.{◌if◌, first}
use Rattle.rules.specs.Pam.{Header as RuleHeader, texel_bytes, other_tuples, pam_head, pam_read_tests, pam_read_call}
use Rattle.rules.proofs.Refused.{Passed, numbered, passed, done_is}
use Rattle.pam.specs.Gather.{other_by}
use Rattle.pam.specs.Tests.{read_tests}
use Rattle.pam.specs.declared.header.Header.{Header}
use Rattle.pam.proofs.Caps.{same-capped, above-capped, left_over}
use Rattle.pam.proofs.Seen.{States, Seen}
use Rattle.pam.proofs.Sides.{Within, within}

module _ (x : Header) (h : RuleHeader) (s : States x h) where
  other_is : other_by x ≡ other_tuples h
  other_is =
      let d : eqb x.depth 4 ≡ eqb h.depth 4 = ap (λ n. eqb n 4) s.depth ∙ same-capped h.depth 4 (omega arith) in
      let m : eqb x.maxval 255 ≡ eqb h.maxval 255 = ap (λ n. eqb n 255) s.maxval ∙ same-capped h.maxval 255 (omega arith) in
      λ i. not (d i && m i && s.tuple i)

  sides_are : sides_outside x.width x.height ≡ sides_outside h.width h.height
  sides_are =
      let w = ap (ltb side_limit) s.width ∙ above-capped side_limit h.width (omega arith) in
      let e = ap (ltb side_limit) s.height ∙ above-capped side_limit h.height (omega arith) in
      λ i. w i || e i

  -- sides within the limit are those that the header states
  width_is : Within h.width h.height → x.width ≡ h.width
  width_is w = s.width ∙ omega (arith, w.width)

  height_is : Within h.width h.height → x.height ≡ h.height
  height_is w = s.height ∙ omega (arith, w.height)

  bytes_are : Within h.width h.height → texel_bytes x.width x.height ≡ texel_bytes h.width h.height
  bytes_are w = λ i. texel_bytes (width_is w i) (height_is w i)

-- a broken header is refused before all else
pub broken_first : (file picture : List ℕ) (h : RuleHeader) → h.broken ≡ true → 13 ≡ first (pam_read_tests h file picture)
unfolding first
broken_first file picture h e = rw e

module _ (file picture : List ℕ) (x : Header) (h : RuleHeader) (b : h.broken ≡ false) (s : States x h) (l : x.size ≤ length file) where
  abbrev gathered : ℕ
  gathered = texel_bytes x.width x.height

  abbrev stated : ℕ
  stated = texel_bytes h.width h.height

  -- the tests after the sides' own, where that passes
  last_tests : (t : Bool) → sides_outside h.width h.height ≡ t
      → first ((2 if t) ∷ (15 if ltb (length file - x.size) gathered) ∷ (6 if ltb (length picture) gathered) ∷ [])
      ≡ first ((2 if t) ∷ (15 if ltb (length file) (h.size + stated)) ∷ (6 if ltb (length picture) stated) ∷ [])
  unfolding first
  last_tests true e = refl
  last_tests false e =
      let n = bytes_are x h s (within h.width h.height e) in
      let left : ltb (length file - x.size) stated ≡ ltb (length file) (h.size + stated) =
      left_over (length file) x.size stated l ∙ (λ j. ltb (length file) (s.size j + stated)) in
      rw (n, left)

  pub tested_whole : first (read_tests x (length file) (length picture)) ≡ first (pam_read_tests h file picture)
  unfolding first
  tested_whole =
      let last = last_tests (sides_outside h.width h.height) refl in
      rw (b, other_is x h s, sides_are x h s) (ap (λ n. cond (other_tuples h) 14 n) last)

-- the first refusal, by what was gathered of the file
abbrev pub refused_by : List ℕ → List ℕ → Option Header → ℕ
refused_by file picture None = 13
refused_by file picture (Some x) = first (read_tests x (length file) (length picture))

-- No test can tell what was gathered from what the header says.
pub tested : (file picture : List ℕ) (o : Option Header) (h : RuleHeader) → Seen o h → ((x : Header) → o ≡ Some x → x.size ≤ length file)
    → refused_by file picture o ≡ first (pam_read_tests h file picture)
tested file picture None h k l = broken_first file picture h (sym k.broken_is)
tested file picture (Some x) h k l = tested_whole file picture x h (sym k.broken_is) (k.states x refl) (l x refl)

-- nothing is refused
pub record Taken (x : Header) (h : RuleHeader) (file picture : List ℕ) : Type 0 where
  pub within : Within x.width x.height
  pub width : x.width ≡ h.width
  pub height : x.height ≡ h.height
  pub size : x.size ≡ h.size
  pub texels : x.size + texel_bytes x.width x.height ≤ length file
  pub room : texel_bytes x.width x.height ≤ length picture

pub taken : (file picture : List ℕ) (x : Header) (h : RuleHeader) → States x h → first (pam_read_tests h file picture) ≡ 0
    → Taken x h file picture
unfolding Passed
taken file picture x h s e =
    let p = passed (pam_read_tests h file picture) (numbered (pam_read_tests h file picture) refl) e in
    let w = within h.width h.height p.1.1.0 in
    let n = bytes_are x h s w in
    record {
      within = record { width = rw (width_is x h s w) w.width; height = rw (height_is x h s w) w.height };
      width = width_is x h s w;
      height = height_is x h s w;
      size = s.size;
      texels = rw (n, s.size) (ltb-false _ _ p.1.1.1.0);
      room = rw n (ltb-false _ _ p.1.1.1.1.0);
    }

-- the call where nothing is refused: the size, and the texels
pub picture_read : (file picture : List ℕ) {w h : ℕ} {xs : List ℕ} → first (pam_read_tests (pam_head file) file picture) ≡ 0
    → w ≡ (pam_head file).width → h ≡ (pam_head file).height
    → xs ≡ over (take (texel_bytes (pam_head file).width (pam_head file).height) (drop (pam_head file).size file)) picture
    → record { refusal = 0; numbers = w ∷ h ∷ []; buffers = xs ∷ [] } ≡ pam_read_call file picture
unfolding pam_read_call
picture_read file picture none w h e = rw (w, h, e) (done_is (pam_read_tests (pam_head file) file picture) _ _ _ none)
