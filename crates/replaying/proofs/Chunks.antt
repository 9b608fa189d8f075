-- A record of an input as the chunk that comes after those before it.
use mathlib.Core.Path.{◌≡◌, ap, sym, ◌∙◌}
use mathlib.Core.List.{List, [], ◌++◌, append-nil}
use Prim.Native.Nat.{ℕ, ◌+◌, ◌*◌, ◌<◌, min}
use native.Mathlib.Omega.{arith}
use native.Mathlib.Decide.{dec_lt}
use lib.ListN.{length, take, drop, drop_of_length-le, length-append, length-drop}
use lib.Seq.{take_all, take_at, drop_at, drop-drop}
use Rattle.std.proofs.lemmas.List.{nil_from_length}
use Rattle.rules.specs.Base.{record_of}
use Rattle.rules.specs.Replay.{replay_size, record_count}

module _ (input : List ℕ) (n : ℕ) (rest chunk after : List ℕ) (is : rest ≡ drop (n * replay_size) input) (parts : rest ≡ chunk ++ after)
    (size : length chunk ≡ min replay_size (length rest)) where
  cut : (take replay_size (chunk ++ after) ≡ chunk) × (drop replay_size (chunk ++ after) ≡ after)
  cut = go (dec_lt (length rest) replay_size)
    where
      sum : length rest ≡ length chunk + length after
      sum = ap length parts ∙ length-append chunk after

      go : Dec (length rest < replay_size) → (take replay_size (chunk ++ after) ≡ chunk) × (drop replay_size (chunk ++ after) ≡ after)
      go (yes l) =
          let none : after ≡ [] = nil_from_length after (omega (arith, sum)) in (
            rw (none, append-nil) (take_all replay_size chunk (omega (arith, l))),
            rw (none, append-nil) (drop_of_length-le chunk {i = replay_size} (omega (arith, l))),
          )
      go (no l) =
          let e : length chunk ≡ replay_size = omega (arith, l) in
          (take_at chunk after replay_size e, drop_at chunk after replay_size e)

  pub chunk_is : chunk ≡ record_of replay_size input n
  chunk_is = sym (rw (← is, parts) cut.0)

  pub after_is : after ≡ drop ((n + 1) * replay_size) input
  after_is =
      let e : n * replay_size + replay_size ≡ (n + 1) * replay_size = omega arith in
      sym (rw (← e, ← drop-drop, ← is, parts) cut.1)

  pub inside : 0 < length rest → n < record_count input
  inside h = omega (arith, ap length is, length-drop (n * replay_size) input)
