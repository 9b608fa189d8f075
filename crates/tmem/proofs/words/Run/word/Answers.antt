-- `tmem::words::Run::word` computes a word's numbers; no product of a run wraps. Assumes nothing.
use mathlib.Core.Path.{refl}
use native.Mathlib.Omega.{arith}
use Rattle.tmem.proofs.Runs.{Reached, reached}
use Rattle.tmem.proofs.words.Run.word.Goals.{Start}
use Rattle.tmem.proofs.words.Run.word.Goals as goal

products : (c : Start) → Reached c.args.self c.args.w
products c = reached c.args.self c.args.w c.requires.paced c.requires.w_bound

pub overflow_mul-s : goal.overflow_mul-s
overflow_mul-s c = omega (arith, products (goal.at.overflow_mul-s c).Start)

pub overflow_mul-t : goal.overflow_mul-t
overflow_mul-t c = omega (arith, products (goal.at.overflow_mul-t c).Start)

pub overflow_add-t : goal.overflow_add-t
overflow_add-t c = omega (arith, products (goal.at.overflow_add-t c).Start)

pub overflow_mul-source : goal.overflow_mul-source
overflow_mul-source c = omega (arith, products (goal.at.overflow_mul-source c).Start)

pub overflow_add-source : goal.overflow_add-source
overflow_add-source c = omega (arith, products (goal.at.overflow_add-source c).Start)

pub returns : goal.returns
returns c =
    record {
      value = refl;
      t_bound = omega (arith, products (goal.at.returns c).Start);
    }
