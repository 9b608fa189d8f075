-- `replay::Replayer::replay_held` lends the part of the text that is free, in which the lines end. Assumes nothing.
use Rattle.std.proofs.Common.{◌≡◌, ℕ, List, [], ◌∷◌, ◌+◌, ◌-◌, ◌≤◌, arith, length, take, drop, length-take}
use Rattle.rules.specs.Replay.{Carried, Piece, run_call}
use Rattle.pieces.specs.Text.{text_size}
use Rattle.replaying.proofs.Ran.{ran_inside}
use Rattle.replay.proofs.Replayer.replay_held.Goals as goal

-- the lines of a run end in the text
near : (bytes input : List ℕ) (at : ℕ) (m : Carried) (p : Piece) (records end number : ℕ) (bank map reasons out : List ℕ)
    → at ≤ text_size
    → record { refusal = 0; numbers = records ∷ end ∷ number ∷ []; buffers = bank ∷ map ∷ reasons ∷ out ∷ [] }
    ≡ run_call m input p (take (text_size - at) (drop at bytes))
    → length out ≡ length (take (text_size - at) (drop at bytes)) → at + end ≤ text_size
near bytes input at m p records end number bank map reasons out h answer same =
    let part : List ℕ = take (text_size - at) (drop at bytes) in
    let inside = ran_inside m input p part 0 records end number bank map reasons out answer same in
    let few : length part ≤ text_size - at = rw length-take (omega arith) in
    omega (arith, inside.1, h)

pub overflow_add-self : goal.overflow_add-self
overflow_add-self g c =
    let t = c.args.self.now.text in
    let h : t.end + c.in-Ok.run'.end ≤ text_size =
    near t.bytes _ t.end _ _ _ _ _ _ _ _ _ t.end_in_bounds c.in-Ok.ensures c.replay_run-ran.auto.out in
    omega arith

pub invariant_of-self-2-clause-end_in_bounds : goal.invariant_of-self-2-clause-end_in_bounds
invariant_of-self-2-clause-end_in_bounds g c =
    let t = c.args.self.now.text in
    near t.bytes _ t.end _ _ _ _ _ _ _ _ _ t.end_in_bounds c.in-Ok.ensures c.replay_run-ran.auto.out
