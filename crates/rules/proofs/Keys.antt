-- What document 01 asks of a key, for any reading: the bytes kept are those that it reads.
use mathlib.Core.Path.{◌≡◌, refl, ap, sym, ◌∙◌}
use mathlib.Core.Bool.{Bool, true, false, cond, ◌||◌, true≢false}
use mathlib.Core.List.{List, [], ◌∷◌}
use Prim.Native.Nat.{ℕ, ◌<◌, ◌≤◌}
use native.Mathlib.Omega.{arith}
use native.Mathlib.Decide.{dec_lt}
use lib.Dec.{eqb}
use lib.ListN.{length, get_or, get_or-eq_default}
use lib.Seq.{ext_get_or}
use borrow.Author.Tests.{eqb-true}
use Rattle.rules.specs.Base.{tab, mem}
use Rattle.rules.specs.Reading.{Reading, give, ask, trail, given, Agree}
use Rattle.rules.proofs.Readings.{agree_trail, agree_given}
use Rattle.rules.specs.Key.{kept, key_of}
use Rattle.rules.proofs.Tables.{length-tab, get_or-tab, mem_head, mem-tail}

pub length-key : (r : Reading) (b : List ℕ) → length (key_of r b) ≡ 4096
unfolding key_of kept
length-key r b = length-tab 4096 _

-- the byte at an address of the key
byte_of : List ℕ → List ℕ → ℕ → ℕ
byte_of l b a = cond (mem a l) (get_or b a 0) 0

kept_in : (l b : List ℕ) (a : ℕ) → a < 4096 → get_or (kept l b) a 0 ≡ byte_of l b a
unfolding kept byte_of
kept_in l b a p = get_or-tab 4096 (λ a. cond (mem a l) (get_or b a 0) 0) a 0 p

kept_out : (l b : List ℕ) (a : ℕ) → 4096 ≤ a → get_or (kept l b) a 0 ≡ 0
unfolding kept
kept_out l b a p =
    get_or-eq_default (tab 4096 (λ a. cond (mem a l) (get_or b a 0) 0)) 0
    (rw (length-tab 4096 (λ a. cond (mem a l) (get_or b a 0) 0)) p)

-- the key's byte at an address: the bank's where the reading reads it, and 0 at every other
pub key-byte : (r : Reading) (b : List ℕ) (a : ℕ) → length b ≡ 4096 → get_or (key_of r b) a 0 ≡ cond (mem a (trail r b)) (get_or b a 0) 0
unfolding key_of byte_of
key-byte r b a n = go (dec_lt a 4096)
  where
    none : (t : Bool) (v : ℕ) → v ≡ 0 → cond t v 0 ≡ 0
    none true v e = e
    none false v e = refl

    go : Dec (a < 4096) → get_or (kept (trail r b) b) a 0 ≡ cond (mem a (trail r b)) (get_or b a 0) 0
    go (yes p) = kept_in (trail r b) b a p
    go (no p) =
        kept_out (trail r b) b a (omega arith)
        ∙ sym (none (mem a (trail r b)) (get_or b a 0) (get_or-eq_default b 0 (omega arith)))

-- a kept address has the bank's byte
kept_at : (l b : List ℕ) (a : ℕ) → length b ≡ 4096 → mem a l ≡ true → get_or (kept l b) a 0 ≡ get_or b a 0
unfolding byte_of
kept_at l b a n m = go (dec_lt a 4096)
  where
    go : Dec (a < 4096) → get_or (kept l b) a 0 ≡ get_or b a 0
    go (yes p) = kept_in l b a p ∙ rw m refl
    go (no p) = kept_out l b a (omega arith) ∙ sym (get_or-eq_default b 0 (omega arith))

-- each address of m is one of l
Among : List ℕ → List ℕ → Type 0
Among m l = (a : ℕ) → mem a m ≡ true → mem a l ≡ true

agree_kept : (m l b : List ℕ) → length b ≡ 4096 → Among m l → Agree m b (kept l b)
unfolding Agree Among
agree_kept [] l b n s = tt
agree_kept (a ∷ m) l b n s =
    (sym (kept_at l b a n (s a (mem_head a m))), agree_kept m l b n (λ x h. s x (mem-tail x a m h)))

-- the key and the bank agree wherever the bank's reading reads
pub agree_key : (r : Reading) (b : List ℕ) → length b ≡ 4096 → Agree (trail r b) b (key_of r b)
unfolding key_of Among
agree_key r b n = agree_kept (trail r b) (trail r b) b n (λ a h. h)

-- the key gives the same bytes by the same reads
pub key-given : (r : Reading) (b : List ℕ) → length b ≡ 4096 → given r (key_of r b) ≡ given r b
key-given r b n = agree_given r b (key_of r b) (agree_key r b n)

pub key-trail : (r : Reading) (b : List ℕ) → length b ≡ 4096 → trail r (key_of r b) ≡ trail r b
key-trail r b n = agree_trail r b (key_of r b) (agree_key r b n)

-- banks that agree at each address of a list have the same bytes kept of it
agree_mem : (l b c : List ℕ) (a : ℕ) → Agree l b c → mem a l ≡ true → get_or b a 0 ≡ get_or c a 0
unfolding Agree mem
agree_mem [] b c a g h = absurd (true≢false (sym h))
agree_mem (x ∷ l) b c a g h = go (eqb a x) refl h (agree_mem l b c a g.1)
  where
    go : (t : Bool) → eqb a x ≡ t → (t || mem a l) ≡ true → (mem a l ≡ true → get_or b a 0 ≡ get_or c a 0) → get_or b a 0 ≡ get_or c a 0
    go true e h' ih = rw (eqb-true a x e) g.0
    go false e h' ih = ih h'

length-kept : (l b : List ℕ) → length (kept l b) ≡ 4096
unfolding kept
length-kept l b = length-tab 4096 (λ a. cond (mem a l) (get_or b a 0) 0)

byte_agree : (l b c : List ℕ) (a : ℕ) → Agree l b c → byte_of l b a ≡ byte_of l c a
unfolding byte_of
byte_agree l b c a g = go (mem a l) refl
  where
    go : (t : Bool) → mem a l ≡ t → cond t (get_or b a 0) 0 ≡ cond t (get_or c a 0) 0
    go true e = agree_mem l b c a g e
    go false e = refl

kept_agree : (l b c : List ℕ) → Agree l b c → kept l b ≡ kept l c
kept_agree l b c g =
    ext_get_or 0 (kept l b) (kept l c) (length-kept l b ∙ sym (length-kept l c))
    (λ a h. let p : a < 4096 = rw (length-kept l b) at h in kept_in l b a p ∙ byte_agree l b c a g ∙ sym (kept_in l c a p))

pub agree→key : (r : Reading) (b c : List ℕ) → Agree (trail r b) b c → key_of r b ≡ key_of r c
unfolding key_of
agree→key r b c g = kept_agree (trail r b) b c g ∙ ap (λ l. kept l c) (sym (agree_trail r b c g))

-- and is its own key
pub key-key : (r : Reading) (b : List ℕ) → length b ≡ 4096 → key_of r (key_of r b) ≡ key_of r b
key-key r b n = sym (agree→key r b (key_of r b) (agree_key r b n))

-- a bank of which the list's bytes are known
Told : List ℕ → List ℕ → List ℕ → Type 0
Told l k b = (a : ℕ) → mem a l ≡ true → get_or k a 0 ≡ get_or b a 0

told_agree : (r : Reading) (b c k : List ℕ) → Told (trail r b) k b → Told (trail r c) k c → Agree (trail r b) b c
unfolding Told trail Agree
told_agree (give t) b c k p q = tt
told_agree (ask a f) b c k p q =
    let e : get_or b a 0 ≡ get_or c a 0 = sym (p a (mem_head a _)) ∙ q a (mem_head a _) in
    (e, told_agree (f (get_or b a 0)) b c k (λ x h. p x (mem-tail x a _ h)) (rw e (λ x h. q x (mem-tail x a _ h))))

pub key→agree : (r : Reading) (b c : List ℕ) → length b ≡ 4096 → length c ≡ 4096 → key_of r b ≡ key_of r c → Agree (trail r b) b c
unfolding key_of Told
key→agree r b c n m e =
    told_agree r b c (kept (trail r b) b) (λ a h. kept_at (trail r b) b a n h) (rw e (λ a h. kept_at (trail r c) c a m h))
