-- Laws of stores that are carried out: one list after the other, a table's entry at a time, and no length changes.
use denote.Ref.{at_last}
use mathlib.Core.Path.{◌≡◌, refl, ap, sym, ◌∙◌}
use mathlib.Core.List.{List, [], ◌∷◌, ◌++◌}
use Prim.Native.Nat.{ℕ, zero, suc, ◌+◌, ◌*◌, ◌/◌, ◌%◌, ◌<◌, ◌≤◌}
use native.Mathlib.Nat.{mul-le-mul, zero-mul, suc-mul}
use native.Mathlib.Numerals.{add-one}
use native.Mathlib.Omega.{arith}
use lib.ListN.{length, get_or, set, length-append}
use lib.Seq.{set_comm}
use Rattle.rules.specs.Base.{tab, tab_from, concat, how_many, stamped, stamps}
use Rattle.rules.specs.Load.{Store, stored, written, reasoned, made_up}
use Rattle.rules.proofs.Tables.{concat-more}
use Rattle.rules.proofs.Loads.{stored-append, written-append}
use Rattle.rules.proofs.Reasons.{reasoned-append}
use Rattle.rules.proofs.MadeUp.{made_up_within, made_up-append}
use Rattle.tmem.specs.declared.memory.Memory.{Memory}
use Rattle.tmem.specs.declared.tally.Tally.{Tally}
use Rattle.tmem.specs.Part.{Carried, Counted, CountedApart, lists, tally_of, no_tally, plus_tally}

module _ {src : List ℕ} {m : Memory} where
  none : Carried src [] m m
  unfolding stored written stamps reasoned
  none = record { bank_is = refl; map_is = refl; reasons_is = refl; label_is = refl }

  pub after : {l k : List Store} {m' m'' : Memory} → Carried src l m m' → Carried src k m' m'' → Carried src (l ++ k) m m''
  after {l} {k} p q =
      record {
        bank_is =
            q.bank_is
            ∙ ap (λ x. at_last x (stored src k x.now)) p.bank_is
            ∙ ap (at_last m.bank) (sym (stored-append src l k m.bank.now));
        map_is =
            q.map_is
            ∙ (λ i. at_last (p.map_is i) (written (p.label_is i).number k (p.map_is i).now))
            ∙ ap (at_last m.written) (sym (written-append m.label.number l k m.written.now));
        reasons_is =
            q.reasons_is
            ∙ (λ i. at_last (p.reasons_is i) (reasoned (p.label_is i).reason k (p.reasons_is i).now))
            ∙ ap (at_last m.reasons) (sym (reasoned-append m.label.reason l k m.reasons.now));
        label_is = q.label_is ∙ p.label_is;
      }

  -- the lists of a table, and one more
  one_more : (f : ℕ → List Store) (n : ℕ) {m' m'' : Memory}
      → Carried src (concat (tab n f)) m m'
      → Carried src (f n) m' m''
      → Carried src (concat (tab (n + 1) f)) m m''
  one_more f n p q = rw concat-more (after p q)

-- two stores in a row at other addresses may change places
stamped_swap : (n : ℕ) (m : List ℕ) (a b : ℕ) → (a ≡ b → ⊥) → stamped n (stamped n m a) b ≡ stamped n (stamped n m b) a
unfolding stamped
stamped_swap n m a b h =
    let x = n / 256 in
    let y = n % 256 in
    ap (λ l. set l (2 * b + 1) y) (set_comm (set m (2 * a) x) (2 * a + 1) (2 * b) y x (λ e. omega arith))
    ∙ set_comm (set (set m (2 * a) x) (2 * b) x) (2 * a + 1) (2 * b + 1) y y (λ e. h (omega arith))
    ∙ ap (λ l. set (set l (2 * b + 1) y) (2 * a + 1) y) (set_comm m (2 * a) (2 * b) x x (λ e. h (omega arith)))
    ∙ ap (λ l. set l (2 * a + 1) y) (set_comm (set m (2 * b) x) (2 * a) (2 * b + 1) x y (λ e. omega arith))

pub exchanged : {src : List ℕ} {m m' : Memory} (s t u v : Store) → (t.at ≡ u.at → ⊥)
    → Carried src (s ∷ t ∷ u ∷ v ∷ []) m m'
    → Carried src (s ∷ u ∷ t ∷ v ∷ []) m m'
unfolding stored written stamps reasoned
exchanged {src} {m} s t u v h p =
    record {
      bank_is =
          p.bank_is
          ∙ ap (λ b. at_last m.bank (set b v.at (byte v)))
          (set_comm (set m.bank.now s.at (byte s)) t.at u.at (byte t) (byte u) h);
      map_is =
          p.map_is ∙ ap (λ l. at_last m.written (stamped n l v.at)) (stamped_swap n (stamped n m.written.now s.at) t.at u.at h);
      reasons_is =
          p.reasons_is ∙ ap (λ l. at_last m.reasons (set l v.at why)) (set_comm (set m.reasons.now s.at why) t.at u.at why why h);
      label_is = p.label_is;
    }
  where
    byte : Store → ℕ
    byte x = get_or src x.from 0

    n : ℕ
    n = m.label.number

    why : ℕ
    why = m.label.reason

-- A loop that carries out the lists of a table, f 0 to f (n - 1), before turn i.
pub record Turn (n : ℕ) (f : ℕ → List Store) (src : List ℕ) (m : Memory) (i : ℕ) (m' : Memory) : Type 0 where
  pub turns : i ≤ n
  pub so_far : Carried src (concat (tab i f)) m m'

module _ {n : ℕ} {f : ℕ → List Store} {src : List ℕ} {m : Memory} where
  pub begin : Turn n f src m 0 m
  unfolding tab tab_from concat
  begin = record { turns = omega arith; so_far = none }

  pub next : {i : ℕ} {m' m'' : Memory} → Turn n f src m i m' → i < n → Carried src (f i) m' m'' → Turn n f src m (i + 1) m''
  next {i} t h q = record { turns = omega arith; so_far = one_more f i t.so_far q }

  pub finish : {i : ℕ} {m' : Memory} → Turn n f src m i m' → n ≤ i → Carried src (concat (tab n f)) m m'
  finish {i} t h = let e : i ≡ n = omega arith in rw e at t.so_far

-- The same loop where it counts its stores.
pub record Counting (n : ℕ) (f : ℕ → List Store) (src : List ℕ) (m : Memory) (i : ℕ) (m' : Memory) (tally : Tally) : Type 0 where
  pub turn : Turn n f src m i m'
  pub counted : tally ≡ tally_of (length src) (concat (tab i f))

-- lists one after the other have their tallies' sum
tally_append : (size : ℕ) (l m : List Store) → plus_tally (tally_of size l) (tally_of size m) ≡ tally_of size (l ++ m)
tally_append size l m = λ i. record { count = sym (length-append l m) i; made_up = sym (made_up-append size l m) i }

-- n lists of g stores each
pub table-length : (f : ℕ → List Store) (g : ℕ) → ((i : ℕ) → length (f i) ≡ g) → (n : ℕ) → length (concat (tab n f)) ≡ n * g
unfolding tab tab_from concat
table-length f g e zero = sym (zero-mul g)
table-length f g e (suc n) =
    ap (λ k. length (concat (tab k f))) (sym (add-one n))
    ∙ ap length (concat-more n f)
    ∙ length-append (concat (tab n f)) (f n)
    ∙ rw (table-length f g e n, e n) (sym (suc-mul n g))

module _ {n : ℕ} {f : ℕ → List Store} {src : List ℕ} {m : Memory} where
  pub begin_count : {tally : Tally} → tally ≡ no_tally → Counting n f src m 0 m tally
  unfolding tab tab_from concat made_up how_many
  begin_count e = record { turn = begin; counted = e }

  pub finish_count : {i : ℕ} {tally : Tally} {m' : Memory}
      → Counting n f src m i m' tally
      → n ≤ i
      → Counted src (concat (tab n f)) m m' tally
  finish_count {i} t h =
      let e : i ≡ n = omega (arith, t.turn.turns) in
      record { carried = finish t.turn h; tally_is = rw e at t.counted }

  -- the next list
  module _ {i : ℕ} {tally more : Tally} {m' m'' : Memory} (t : Counting n f src m i m' tally) (h : i < n)
      (q : Counted src (f i) m' m'' more) where
    joined : plus_tally tally more ≡ tally_of (length src) (concat (tab (i + 1) f))
    joined = rw (concat-more i f, t.counted, q.tally_is) (tally_append (length src) (concat (tab i f)) (f i))

    pub next_count : {both : Tally} → both ≡ plus_tally tally more → Counting n f src m (i + 1) m'' both
    next_count e = record { turn = next t.turn h q.carried; counted = e ∙ joined }

    -- what is counted stays below a bound of the lists times one of their lengths, and what is made up is no more
    pub count_within : (g k b : ℕ) → ((i : ℕ) → length (f i) ≡ g) → n ≤ k → g ≤ b
        → (tally.count + more.count ≤ k * b) × (tally.made_up + more.made_up ≤ k * b)
    count_within g k b e hm hb =
        let l = concat (tab (i + 1) f) in
        let few : (i + 1) * g ≤ k * b = mul-le-mul (omega arith) hb in
        let all : length l ≡ (i + 1) * g = table-length f g e (i + 1) in
        let count : tally.count + more.count ≡ length l = ap (λ (a : Tally). a.count) joined in
        let made : tally.made_up + more.made_up ≡ made_up (length src) l = ap (λ (a : Tally). a.made_up) joined in
        (omega (arith, all, few, count), omega (arith, all, few, made, made_up_within (length src) l))

-- Buffers that are lent each by itself, as a memory of its own over them leaves them.
pub apart : {src : List ℕ} {l : List Store} {n n' : Memory} {tally : Tally}
    → Counted src l n n' tally
    → CountedApart src l n.label (lists n.bank.now n.written.now n.reasons.now) (lists n'.bank.now n'.written.now n'.reasons.now) tally
apart q =
    record {
      bank_is = ap (λ x. x.now) q.carried.bank_is;
      map_is = ap (λ x. x.now) q.carried.map_is;
      reasons_is = ap (λ x. x.now) q.carried.reasons_is;
      tally_is = q.tally_is;
    }

-- A memory of its own borrows another's lists under names of its own. What it leaves stands behind the other's references.
pub on_loan : {src : List ℕ} {l : List Store} (m : Memory) {n n' : Memory} {tally : Tally}
    → n.bank.now ≡ m.bank.now
    → n.written.now ≡ m.written.now
    → n.reasons.now ≡ m.reasons.now
    → n.label ≡ m.label
    → Counted src l n n' tally
    → Counted src l m
    (record {
      bank = at_last m.bank n'.bank.now;
      written = at_last m.written n'.written.now;
      reasons = at_last m.reasons n'.reasons.now;
      label = m.label;
    })
    tally
on_loan {src} {l} m b w r e q =
    record {
      carried =
          record {
            bank_is = ap (λ x. at_last m.bank x.now) q.carried.bank_is ∙ ap (λ x. at_last m.bank (stored src l x)) b;
            map_is =
                ap (λ x. at_last m.written x.now) q.carried.map_is
                ∙ (λ i. at_last m.written (written (e i).number l (w i)));
            reasons_is =
                ap (λ x. at_last m.reasons x.now) q.carried.reasons_is
                ∙ (λ i. at_last m.reasons (reasoned (e i).reason l (r i)));
            label_is = refl;
          };
      tally_is = q.tally_is;
    }
