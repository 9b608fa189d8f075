-- What a picture call answers and leaves: refused, or done; and, without its trail, what it leaves of the picture alone.
use mathlib.Core.Path.{◌≡◌, ap, ◌∙◌, refl}
use mathlib.Core.Bool.{Bool, true, false}
use mathlib.Core.List.{List, [], ◌∷◌}
use Prim.Native.Nat.{ℕ, zero, suc, ◌*◌}
use lib.ListN.{take}
use Rattle.rules.specs.Base.{over}
use Rattle.rules.specs.Reading.{given, trail}
use Rattle.rules.specs.Tile.{Tile}
use Rattle.rules.specs.Picture.{reads_each}
use Rattle.rules.specs.Refusal.{Outcome, first, settle, call}
use Rattle.rules.specs.Calls.{picture_call, observed_call}
use Rattle.rules.proofs.Refused.{done_is}
use Rattle.rdp.proofs.Refusals.{refused_call}
use Rattle.decoder.specs.Rows.{rows_of, told}
use Rattle.decoder.specs.Asked.{reading_by, tests_by, untold_call, outcome_by}
use Rattle.decoder.specs.Sizes.{texels_by, width_by, rows_by}
use Rattle.rdp.specs.View.{answered}
use Rattle.rdp.specs.Refused.{number_of}
use Rattle.rdp.specs.declared.refusal.Refusal.{Refusal}
use Rattle.std.specs.Prelude.{Result, Ok, Err, IsErrAnd}
use Rattle.decoder.proofs.Counted.{reading_by_lem, reads_count}

-- an outcome with its first buffer alone
first_alone : Outcome → Outcome
first_alone o = record { refusal = o.refusal; numbers = o.numbers; buffers = take 1 o.buffers }

settled_alone : (n : ℕ) (numbers instead a b c d : List ℕ)
    → first_alone (settle n numbers instead (a ∷ b ∷ []) (c ∷ d ∷ [])) ≡ settle n numbers instead (a ∷ []) (c ∷ [])
unfolding settle first_alone
settled_alone zero numbers instead a b c d = refl
settled_alone (suc n) numbers instead a b c d = refl

module _ (looked : Bool) (bank : List ℕ) (t : Tile) (mode lane : ℕ) (out seen : List ℕ) where
  pub refused : (observe : Bool) (r : Result ℕ Refusal) (e : Refusal) → IsErrAnd r (λ f. f ≡ e)
      → number_of e ≡ first (tests_by observe looked bank t mode lane out seen)
      → answered r (out ∷ seen ∷ []) ≡ outcome_by observe looked bank t mode lane out seen
  unfolding untold_call observed_call
  refused true r e h p = refused_call (λ n. n ∷ []) r e _ (_ ∷ []) _ (out ∷ seen ∷ []) h p
  refused false r e h p = refused_call (λ n. n ∷ []) r e _ (_ ∷ []) _ (out ∷ seen ∷ []) h p

  pub done : (observe : Bool) (count : ℕ) (picture seen' : List ℕ) → first (tests_by observe looked bank t mode lane out seen) ≡ 0
      → count ≡ reads_each t mode * texels_by looked t
      → picture ≡ over (given (rows_of looked t mode lane (width_by looked t) (rows_by looked t)) bank) out
      → seen' ≡ over (told observe (trail (rows_of looked t mode lane (width_by looked t) (rows_by looked t)) bank)) seen
      → record { refusal = 0; numbers = count ∷ []; buffers = picture ∷ seen' ∷ [] } ≡ outcome_by observe looked bank t mode lane out seen
  unfolding untold_call observed_call over
  done true count picture seen' z n p s =
      rw (n, ← reads_count looked t mode lane bank, p, s, reading_by_lem looked t mode lane) (done_is _ _ _ _ z)
  done false count picture seen' z n p s =
      rw (n, ← reads_count looked t mode lane bank, p, s, reading_by_lem looked t mode lane) (done_is _ _ _ _ z)

  -- without a trail, what is left of the picture is the rule's
  pub alone : (r : Result ℕ Refusal) (out' seen' : List ℕ)
      → answered r (out' ∷ seen' ∷ []) ≡ outcome_by false looked bank t mode lane out seen
      → answered r (out' ∷ []) ≡ picture_call (reading_by looked t mode lane) (texels_by looked t) bank t mode lane out
  unfolding untold_call picture_call call first_alone
  alone r out' seen' e = one r ∙ ap first_alone e ∙ settled_alone _ _ _ _ _ _ _
    where
      one : (r : Result ℕ Refusal) → answered r (out' ∷ []) ≡ first_alone (answered r (out' ∷ seen' ∷ []))
      one (Ok n) = refl
      one (Err f) = refl
