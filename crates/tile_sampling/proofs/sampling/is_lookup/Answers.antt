-- `tile_sampling::sampling::is_lookup` is the rule's four tests, of which each mode has three. Assumes nothing.
use mathlib.Core.Path.{◌≡◌, refl, sym, ◌∙◌}
use mathlib.Core.Bool.{Bool, true, false, not, ◌&&◌, ◌||◌}
use Prim.Native.Nat.{ℕ, ◌<◌, ◌≤◌}
use lib.Dec.{ltb, eqb}
use borrow.Author.Tests.{lt-ltb, le-ltb, le-leb, lt-leb}
use Rattle.rules.specs.Base.{odd}
use Rattle.rules.specs.Tile.{Tile}
use Rattle.rules.specs.Sampling.{past_size, is_rgba32, flag}
use Rattle.tile_sampling.proofs.sampling.is_lookup.Goals as goal

-- what each mode leaves of the last two tests
second : (tall rest yuv : Bool) → yuv ≡ ((tall && false && rest) || (yuv && true))
second true rest true = refl
second true rest false = refl
second false rest true = refl
second false rest false = refl

first : (tall rest yuv : Bool) → (tall && rest) ≡ ((tall && true && rest) || (yuv && false))
first true true yuv = refl
first true false true = refl
first true false false = refl
first false rest true = refl
first false rest false = refl

-- where neither axis repeats past its size
module _ (t : Tile) (mode : ℕ)
    (p : past_size t.cms t.masks t.width ≡ false)
    (q : past_size t.cmt t.maskt t.height ≡ false)
  where
    abbrev tall : Bool
    tall = ltb 256 t.height && odd t.line

    abbrev rest : Bool
    rest = not (is_rgba32 t.fmt t.siz)

    abbrev yuv : Bool
    yuv = eqb t.fmt 1

    with-palette : 2 ≤ mode → yuv ≡ flag t mode
    unfolding flag
    with-palette h = rw (p, q, le-ltb mode 2 h, le-leb 2 mode h) (second tall rest yuv)

    without-palette : mode < 2 → (tall && rest) ≡ flag t mode
    unfolding flag
    without-palette h = rw (p, q, lt-ltb mode 2 h, lt-leb 2 mode h) (first tall rest yuv)

pub returns-then-past_size : goal.returns-then-past_size
unfolding flag
returns-then-past_size c = rw (sym c.past_size.ensures ∙ c.if-past_size.true)

pub returns-then-past_size-2 : goal.returns-then-past_size-2
unfolding flag
returns-then-past_size-2 c =
    rw (sym c.past_size.ensures ∙ c.if-past_size.false, sym c.past_size-2.ensures ∙ c.if-past_size-2.true)

pub returns-then-tlut-ge2 : goal.returns-then-tlut-ge2
returns-then-tlut-ge2 c =
    with-palette _ _ (sym c.past_size.ensures ∙ c.if-past_size.false) (sym c.past_size-2.ensures ∙ c.if-past_size-2.false)
    c.if-tlut-ge2.true

pub returns : goal.returns
returns c =
    without-palette _ _ (sym c.past_size.ensures ∙ c.if-past_size.false) (sym c.past_size-2.ensures ∙ c.if-past_size-2.false)
    c.if-tlut-ge2.false
