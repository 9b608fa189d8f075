-- What a record's refusal, key and load answer and leave, by the tests that are done before.
use mathlib.Core.Path.{◌≡◌}
use mathlib.Core.List.{List, [], ◌∷◌}
use Prim.Native.Nat.{ℕ}
use Rattle.std.specs.Prelude.{Result, IsErrAnd}
use Rattle.rules.specs.Key.{kept_count}
use Rattle.rules.specs.Refusal.{Test, first, settle, call_or}
use Rattle.rules.specs.Replay.{Carried, lent_of, spent, count_of, left, tested}
use Rattle.rdp.specs.Refused.{number_of}
use Rattle.rdp.specs.View.{tile_of, replay_answered}
use Rattle.rdp.specs.declared.answer.Replayed.{Replayed}
use Rattle.rdp.specs.declared.refusal.Refusal.{Refusal}
use Rattle.rdp.proofs.Refusals.{refused_call_or}
use Rattle.texdec.specs.declared.pair.Picture.{Picture}
use Rattle.replaying.specs.declared.loading.Loading.{Loading}
use Rattle.replaying.specs.Said.{SaysKey, SaysLoad, load_done}

module _ (tests : List Test) (src r : List ℕ) (m : Carried) where
  pub refused_tested : (x : Result Replayed Refusal) (e : Refusal) → IsErrAnd x (λ f. f ≡ e) → number_of e ≡ first tests
      → replay_answered m.last x (lent_of m) ≡ tested tests src r m
  unfolding tested
  refused_tested x e h p = refused_call_or _ x e tests _ _ _ _ h p

  pub key_tested : (p : Picture) (count number : ℕ) → SaysKey r p → 0 ≡ first tests
      → count ≡ kept_count (tile_of p.tile) p.tlut p.lane m.bank → number ≡ m.last
      → record { refusal = 0; numbers = count ∷ number ∷ []; buffers = lent_of m } ≡ tested tests src r m
  unfolding tested call_or settle count_of left
  key_tested p count number s z e f = rw (← z, s.key, e, f, s.tile_is, s.mode_is, s.lane_is)

  pub load_tested : (l : Loading) → SaysLoad r l → first tests ≡ first (spent m.last r ∷ [])
      → load_done l src m.last m.bank m.map m.reasons ≡ tested tests src r m
  unfolding tested call_or count_of left
  load_tested l s z = rw (z, s.no_key, s.stores_are)
