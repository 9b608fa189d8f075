-- The calls that write text into a lent buffer: what each answers and leaves, by the test of its room.
use mathlib.Core.Path.{◌≡◌, refl, ap, sym, ◌∙◌}
use mathlib.Core.List.{List, [], ◌∷◌, ◌++◌}
use Prim.Native.Nat.{ℕ, ◌+◌, ◌<◌, ◌≤◌}
use native.Mathlib.Omega.{arith}
use lib.Dec.{ltb}
use Rattle.std.specs.Prelude.{Result, Ok, Err, IsOk}
use lib.ListN.{length, take, length-append}
use borrow.Author.Tests.{lt-ltb, le-ltb}
use Rattle.rules.specs.Base.{over}
use Rattle.rules.specs.Lister.{decimal, number_room, number_text, number_call}
use Rattle.rules.specs.Refusal.{◌if◌, Outcome, first, call}
use Rattle.rules.proofs.Refused.{refused_is, done_is}
use Rattle.rdp.specs.View.{text_answered}
use Rattle.rdp.specs.declared.refusal.Refusal.{Refusal}
use Rattle.rdp.proofs.Refusals.{numbered}
use Rattle.decimal.proofs.Decimals.{decimal_short}

-- a call that wants so much room, answers where its text ends, and leaves the buffer with the text
module _ (room : ℕ) (out : List ℕ) (end : ℕ) (left : List ℕ) where
  abbrev pub text_call : Outcome
  text_call = call ((6 if ltb (length out) room) ∷ []) (end ∷ []) (left ∷ []) (out ∷ [])

  pub text-refused : length out < room → record { refusal = 6; numbers = 0 ∷ []; buffers = out ∷ [] } ≡ text_call
  unfolding first
  text-refused h = refused_is _ _ _ _ 6 (rw (lt-ltb (length out) room h)) (λ z. omega arith)

  pub text_done : {n : ℕ} {xs : List ℕ} → room ≤ length out → n ≡ end → xs ≡ left
      → record { refusal = 0; numbers = n ∷ []; buffers = xs ∷ [] } ≡ text_call
  unfolding first
  text_done h e i = rw (e, i) (done_is _ _ _ _ (rw (le-ltb (length out) room h)))

  -- what a caller knows that gave room enough: the call is not refused, and its end and buffer are these
  pub text_ok : (r : Result ℕ Refusal) (xs : List ℕ) → room ≤ length out → text_answered r (xs ∷ []) ≡ text_call → IsOk r
  text_ok (Ok n) xs h e = refl
  text_ok (Err f) xs h e = absurd (numbered f (ap (λ (o : Outcome). o.refusal) (e ∙ sym (text_done h refl refl))))

  pub text-put : {r : Result ℕ Refusal} {n : ℕ} {xs : List ℕ} → room ≤ length out → text_answered r (xs ∷ []) ≡ text_call → r ≡ Ok n
      → (n ≡ end) × (xs ≡ left)
  text-put {r} {n} {xs} h e k =
      let d = sym (ap (λ (x : Result ℕ Refusal). text_answered x (xs ∷ [])) k) ∙ e ∙ sym (text_done h refl refl) in
      let m : (n ∷ []) ≡ (end ∷ []) = ap (λ (o : Outcome). o.numbers) d in
      let b : (xs ∷ []) ≡ (left ∷ []) = ap (λ (o : Outcome). o.buffers) d in
      (cc, cc)

-- The number n and the byte after it stand over a buffer from `at` on, and end at `end`.
pub record Put (n after : ℕ) (out : List ℕ) (at : ℕ) (left : List ℕ) (end : ℕ) : Type 0 where
  pub ends : end ≡ at + length (number_text n after)
  pub near : end ≤ at + number_room
  pub is : left ≡ over (take at out ++ number_text n after) out

-- Where there is room, `put_number` is not refused: a caller unwraps its end.
pub number_ok : (n after : ℕ) (out : List ℕ) (at : ℕ) (r : Result ℕ Refusal) (left : List ℕ) → at + number_room ≤ length out
    → text_answered r (left ∷ []) ≡ number_call n after out at → IsOk r
unfolding number_call
number_ok n after out at r left h e = text_ok (at + number_room) out _ _ r left h e

-- the end that it answers there, and the buffer that it leaves
pub number_put : (n after : ℕ) (out : List ℕ) (at : ℕ) {r : Result ℕ Refusal} {left : List ℕ} {end : ℕ} → at + number_room ≤ length out
    → text_answered r (left ∷ []) ≡ number_call n after out at → r ≡ Ok end → Put n after out at left end
unfolding number_call
number_put n after out at h e k =
    let p = text-put (at + number_room) out _ _ h e k in
    record { ends = p.0; near = omega (arith, p.0, length-append (decimal n) (after ∷ []), decimal_short n); is = p.1 }
