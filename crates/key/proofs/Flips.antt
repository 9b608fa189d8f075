-- What a texel's channels do when one byte that it reads has all its bits flipped: in modes 0 and 1 one of them changes.
use mathlib.Core.Path.{◌≡◌, refl, ap, sym, ◌∙◌}
use mathlib.Core.Bool.{Bool, true, false, cond, not, ◌||◌, true≢false}
use mathlib.Core.List.{List, [], ◌∷◌}
use mathlib.Core.Logic.{◌⊎◌, inl, inr, ⊎_elim}
use Prim.Native.Nat.{ℕ, ◌+◌, ◌-◌, ◌*◌, ◌/◌, ◌%◌, ◌<◌}
use native.Mathlib.Omega.{arith}
use native.Mathlib.Decide.{ℕ_discrete}
use lib.Dec.{T, eqb}
use lib.ListN.{length, get_or, set}
use lib.Seq.{get_or-set_same, get_or-set_other}
use borrow.Author.Tests.{eqb-true, eq-eqb}
use Rattle.rules.specs.Base.{mem}
use Rattle.rules.specs.Key.{flipped, Bytes}
use Rattle.rules.specs.Reading.{given, trail}
use Rattle.rules.specs.Texdec.{Format, rgba16, rgba32, ci4, ci8, ci16, ia4, ia8, ia16, i4, i8, unknown, known}
use Rattle.rules.specs.Texdec.{wide5, wide4, alpha1, entry_of, rgba16_texel, ia16_texel, ia8_texel, ia4_texel, i4_texel, same4, nibble}
use Rattle.rules.specs.Picture.{direct}
use Rattle.rules.proofs.Computed.{all, computed}

-- g tells every byte from its flipped one: antt computes it
abbrev Tells : (ℕ → ℕ) → Type 0
Tells g = T (all 256 (λ v. not (eqb (g (255 - v)) (g v))))

tells : (g : ℕ → ℕ) → Tells g → (v : ℕ) → v < 256 → g (255 - v) ≡ g v → ⊥
tells g t v h e = no_both (eqb (g (255 - v)) (g v)) (computed 256 (λ v. not (eqb (g (255 - v)) (g v))) t v h) (eq-eqb _ _ e)
  where
    no_both : (b : Bool) → T (not b) → b ≡ true → ⊥
    no_both true t e = t
    no_both false t e = true≢false (sym e)

flipped_at : (a : ℕ) (b : List ℕ) → a < length b → get_or (flipped a b) a 0 ≡ 255 - get_or b a 0
unfolding flipped
flipped_at a b h = get_or-set_same b a (255 - get_or b a 0) 0 h

flipped_bytes : (a : ℕ) (b : List ℕ) → a < length b → Bytes b → Bytes (flipped a b)
unfolding flipped Bytes
flipped_bytes a b h s i = go (ℕ_discrete i a)
  where
    go : Dec (i ≡ a) → get_or (set b a (255 - get_or b a 0)) i 0 < 256
    go (yes e) = rw (e, get_or-set_same b a (255 - get_or b a 0) 0 h) (omega arith)
    go (no e) = rw (get_or-set_other b a i (255 - get_or b a 0) 0 e) (s i)

pub mem_cases : (a x : ℕ) (l : List ℕ) → mem a (x ∷ l) ≡ true → (a ≡ x) ⊎ (mem a l ≡ true)
unfolding mem
mem_cases a x l h = go (eqb a x) refl h
  where
    go : (t : Bool) → eqb a x ≡ t → (t || mem a l) ≡ true → (a ≡ x) ⊎ (mem a l ≡ true)
    go true e h' = inl (eqb-true a x e)
    go false e h' = inr h'

pub mem_none : (a : ℕ) → mem a [] ≡ true → ⊥
unfolding mem
mem_none a h = true≢false (sym h)

-- channel k of two texels that are the same
channel : (k : ℕ) {p q : List ℕ} → p ≡ q → get_or p k 0 ≡ get_or q k 0
channel k e = ap (λ l. get_or l k 0) e

-- What each format's texel tells of its bytes, one byte flipped, whatever the others are.
TellsOne : (ℕ → List ℕ) → Type 0
TellsOne f = (v : ℕ) → v < 256 → f (255 - v) ≡ f v → ⊥

TellsFirst : (ℕ → ℕ → List ℕ) → Type 0
TellsFirst f = (v u w : ℕ) → v < 256 → u < 256 → w < 256 → f (255 - v) u ≡ f v w → ⊥

TellsSecond : (ℕ → ℕ → List ℕ) → Type 0
TellsSecond f = (v u w : ℕ) → v < 256 → u < 256 → w < 256 → f u (255 - v) ≡ f w v → ⊥

-- by red, the upper five bits of the high byte; and by alpha, the lowest bit of the low one
rgba16_first : TellsFirst (λ hi lo. rgba16_texel (entry_of hi lo))
unfolding TellsFirst
rgba16_first v u w h i j e =
    let p : entry_of (255 - v) u / 2048 % 32 ≡ (255 - v) / 8 = omega arith in
    let q : entry_of v w / 2048 % 32 ≡ v / 8 = omega arith in
    tells (λ v. wide5 (v / 8)) tt v h (sym (ap wide5 p) ∙ channel 0 e ∙ ap wide5 q)

rgba16_second : TellsSecond (λ hi lo. rgba16_texel (entry_of hi lo))
unfolding TellsSecond
rgba16_second v u w h i j e =
    let p : entry_of u (255 - v) % 2 ≡ (255 - v) % 2 = omega arith in
    let q : entry_of w v % 2 ≡ v % 2 = omega arith in
    tells (λ v. alpha1 (v % 2)) tt v h (sym (ap alpha1 p) ∙ channel 3 e ∙ ap alpha1 q)

ia16_first : TellsFirst (λ hi lo. ia16_texel (entry_of hi lo))
unfolding TellsFirst
ia16_first v u w h i j e = let c = channel 0 e in omega arith

ia16_second : TellsSecond (λ hi lo. ia16_texel (entry_of hi lo))
unfolding TellsSecond
ia16_second v u w h i j e = let c = channel 3 e in omega arith

ci16_first : TellsFirst (λ hi lo. hi ∷ lo ∷ hi ∷ lo ∷ [])
unfolding TellsFirst
ci16_first v u w h i j e = let c = channel 0 e in omega arith

ci16_second : TellsSecond (λ hi lo. hi ∷ lo ∷ hi ∷ lo ∷ [])
unfolding TellsSecond
ci16_second v u w h i j e = let c = channel 1 e in omega arith

same4-one : TellsOne same4
unfolding TellsOne
same4-one v h e = let c = channel 0 e in omega arith

ia8_one : TellsOne ia8_texel
unfolding TellsOne
ia8_one v h e = tells (λ v. wide4 (v / 16)) tt v h (channel 0 e)

-- a nibble by whether x is even
half : Bool → ℕ → ℕ
half t v = cond t (v / 16) (v % 16)

half_tells : (t : Bool) → Tells (half t)
unfolding half
half_tells true = tt
half_tells false = tt

ci4_one : (palette x : ℕ) → TellsOne (λ v. same4 (palette * 16 + nibble x v))
unfolding TellsOne half
ci4_one palette x v h e =
    let t : Bool = eqb (x % 2) 0 in
    let c : palette * 16 + half t (255 - v) ≡ palette * 16 + half t v = channel 0 e in
    tells (half t) (half_tells t) v h (omega arith)

i4_tells : (t : Bool) → Tells (λ v. wide4 (half t v))
unfolding half
i4_tells true = tt
i4_tells false = tt

i4_one : (x : ℕ) → TellsOne (λ v. i4_texel (nibble x v))
unfolding TellsOne half
i4_one x v h e = tells (λ v. wide4 (half (eqb (x % 2) 0) v)) (i4_tells (eqb (x % 2) 0)) v h (channel 0 e)

-- an IA4 nibble by its alpha
ia4_tells : (t : Bool) → Tells (λ v. alpha1 (half t v % 2))
unfolding half
ia4_tells true = tt
ia4_tells false = tt

ia4_one : (x : ℕ) → TellsOne (λ v. ia4_texel (nibble x v))
unfolding TellsOne half
ia4_one x v h e = tells (λ v. alpha1 (half (eqb (x % 2) 0) v % 2)) (ia4_tells (eqb (x % 2) 0)) v h (channel 3 e)

module _ (b : List ℕ) (a : ℕ) (n : length b ≡ 4096) (s : Bytes b) where
  turned : (x : ℕ) → x < 4096 → a ≡ x → get_or (flipped a b) x 0 ≡ 255 - get_or b x 0
  turned x l q = let h : a < length b = omega arith in rw (← q) (flipped_at a b h)

  byte_of : (x y : ℕ) → x < 4096 → a ≡ x → get_or (flipped a b) y 0 < 256
  unfolding Bytes
  byte_of x y l q = let h : a < length b = omega arith in flipped_bytes a b h s y

  one_read : (f : ℕ → List ℕ) (x : ℕ) → x < 4096 → TellsOne f → mem a (x ∷ []) ≡ true
      → f (get_or (flipped a b) x 0) ≡ f (get_or b x 0) → ⊥
  unfolding TellsOne Bytes
  one_read f x l d m e =
      ⊎_elim (λ q. d (get_or b x 0) (s x) (sym (ap f (turned x l q)) ∙ e)) (λ q. mem_none a q) (mem_cases a x [] m)

  two_reads : (f : ℕ → ℕ → List ℕ) (x y : ℕ) → x < 4096 → y < 4096 → TellsFirst f → TellsSecond f → mem a (x ∷ y ∷ []) ≡ true
      → f (get_or (flipped a b) x 0) (get_or (flipped a b) y 0) ≡ f (get_or b x 0) (get_or b y 0) → ⊥
  unfolding TellsFirst TellsSecond Bytes
  two_reads f x y l k d g m e =
      let F : ℕ → ℕ = λ z. get_or (flipped a b) z 0 in
      ⊎_elim
      (λ q. d (get_or b x 0) (F y) (get_or b y 0) (s x) (byte_of x y l q) (s y) (sym (ap (λ v. f v (F y)) (turned x l q)) ∙ e))
      (λ m'.
      ⊎_elim
      (λ q. g (get_or b y 0) (F x) (get_or b x 0) (s y) (byte_of y x k q) (s x) (sym (ap (f (F x)) (turned y k q)) ∙ e))
      (λ q. mem_none a q)
      (mem_cases a y [] m'))
      (mem_cases a x (y ∷ []) m)

  -- a byte that stands in a channel as it is
  as_it_is : (x : ℕ) → x < 4096 → get_or (flipped a b) x 0 ≡ get_or b x 0 → a ≡ x → ⊥
  unfolding Bytes
  as_it_is x l e q = let t = turned x l q in let h = s x in omega arith

  four_reads : (x y z w : ℕ) → x < 4096 → y < 4096 → z < 4096 → w < 4096 → mem a (x ∷ y ∷ z ∷ w ∷ []) ≡ true
      → (get_or (flipped a b) x 0 ∷ get_or (flipped a b) y 0 ∷ get_or (flipped a b) z 0 ∷ get_or (flipped a b) w 0 ∷ [])
      ≡ (get_or b x 0 ∷ get_or b y 0 ∷ get_or b z 0 ∷ get_or b w 0 ∷ [])
      → ⊥
  four_reads x y z w hx hy hz hw m e =
      ⊎_elim (as_it_is x hx (channel 0 e)) (λ m.
      ⊎_elim (as_it_is y hy (channel 1 e)) (λ m.
      ⊎_elim (as_it_is z hz (channel 2 e)) (λ m.
      ⊎_elim (as_it_is w hw (channel 3 e)) (λ q. mem_none a q)
      (mem_cases a w [] m))
      (mem_cases a z (w ∷ []) m))
      (mem_cases a y (z ∷ w ∷ []) m))
      (mem_cases a x (y ∷ z ∷ w ∷ []) m)

  -- a texel that reads a changes when a's byte is flipped
  pub texel_flips : (f : Format) (base palette : ℕ) (swap : Bool) (rel x : ℕ) → known f ≡ true
      → mem a (trail (direct f base palette swap rel x) b) ≡ true
      → given (direct f base palette swap rel x) (flipped a b) ≡ given (direct f base palette swap rel x) b → ⊥
  unfolding direct trail given
  texel_flips rgba16 base palette swap rel x k m e =
      two_reads (λ hi lo. rgba16_texel (entry_of hi lo)) _ _ (omega arith) (omega arith) rgba16_first rgba16_second m e
  texel_flips rgba32 base palette swap rel x k m e = four_reads _ _ _ _ (omega arith) (omega arith) (omega arith) (omega arith) m e
  texel_flips ci4 base palette swap rel x k m e = one_read _ _ (omega arith) (ci4_one palette x) m e
  texel_flips ci8 base palette swap rel x k m e = one_read _ _ (omega arith) same4-one m e
  texel_flips ci16 base palette swap rel x k m e =
      two_reads (λ hi lo. hi ∷ lo ∷ hi ∷ lo ∷ []) _ _ (omega arith) (omega arith) ci16_first ci16_second m e
  texel_flips ia4 base palette swap rel x k m e = one_read _ _ (omega arith) (ia4_one x) m e
  texel_flips ia8 base palette swap rel x k m e = one_read _ _ (omega arith) ia8_one m e
  texel_flips ia16 base palette swap rel x k m e =
      two_reads (λ hi lo. ia16_texel (entry_of hi lo)) _ _ (omega arith) (omega arith) ia16_first ia16_second m e
  texel_flips i4 base palette swap rel x k m e = one_read _ _ (omega arith) (i4_one x) m e
  texel_flips i8 base palette swap rel x k m e = one_read _ _ (omega arith) same4-one m e
  texel_flips unknown base palette swap rel x k m e = absurd (true≢false (sym k))
