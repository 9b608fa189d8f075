-- Words of index bytes: what they read is what texels through the lookup table read, in another order.
use mathlib.Core.Path.{◌≡◌, refl, ap, ◌∙◌}
use mathlib.Core.Bool.{Bool, true, false, cond}
use mathlib.Core.List.{List, [], ◌∷◌}
use mathlib.Core.Logic.{◌⊎◌, inl, inr, ⊎_elim}
use Prim.Native.Nat.{ℕ, ◌+◌, ◌*◌, ◌/◌, ◌%◌, ◌-◌, ◌<◌, ◌≤◌}
use native.Mathlib.Omega.{arith}
use native.Mathlib.Decide.{ℕ_discrete}
use lib.Dec.{eqb}
use lib.ListN.{get_or}
use borrow.Author.Tests.{ne_eqb}
use Rattle.rules.specs.Base.{odd, mem}
use Rattle.rules.specs.Tile.{Tile}
use Rattle.rules.specs.Reading.{Reading, trail, up_to}
use Rattle.rules.specs.Picture.{swap_odd, address, index, entry_at, paletted, texel, column, row_start, lookup_row, lookup}
use Rattle.key.specs.Notes.{noted}
use Rattle.key.specs.Words.{word_texels, ask_one, entries_of, word_reading, index_word, index_words}
use Rattle.rules.proofs.Formats.{texel-tlut}
use Rattle.rules.proofs.Tables.{mem_head, mem-tail}
use Rattle.key.proofs.Flips.{mem_cases, mem_none}
use Rattle.key.proofs.Lift.{found}
use Rattle.key.proofs.Period.{covered}
use Rattle.key.proofs.Steps.{place_small, place_apart, place_of}
use Rattle.key.proofs.WordLaws.{noted-same, same_yes, turned, turned_lt, turned_even, turned_twice, at_byte, row_texel}
use Rattle.key.proofs.WordLaws.{mem-one, one-mem, then_cases, then_mem}
use Rattle.key.proofs.WordLaws.{start_bytes, start_word}

-- where byte c of a row stands in the lower half
byte_at : (o : Bool) (tmem s c : ℕ) → address 2048 (8 * tmem) o (8 * s + c) ≡ 8 * ((tmem + s + c / 8) % 256) + turned o (c % 8)
byte_at o tmem s c =
    let parts : c ≡ 8 * (c / 8) + c % 8 = omega arith in
    let l : 8 * tmem + swap_odd o (8 * s + c) ≡ 8 * (tmem + s + c / 8) + turned o (c % 8) =
    rw (← parts) at (at_byte o tmem s (c / 8) (c % 8) (omega arith)) in
    omega (arith, turned_lt o (c % 8) (omega arith))

-- an index goes by its column's parity
index_same : (t : Tile) (x y v : ℕ) → x % 2 ≡ y % 2 → index t x v ≡ index t y v
index_same t x y v e = go (eqb t.fmt 1)
  where
    go : (u : Bool) → cond (eqb t.siz 0) (t.palette * 16 + cond (eqb (cond u 0 x % 2) 0) (v / 16) (v % 16)) v
        ≡ cond (eqb t.siz 0) (t.palette * 16 + cond (eqb (cond u 0 y % 2) 0) (v / 16) (v % 16)) v
    go true = refl
    go false = rw e

-- a is one of the two bytes of the entry at e
abbrev InEntry : ℕ → ℕ → Type 0
InEntry a e = (a ≡ e) ⊎ (a ≡ e + 1)

module _ (t : Tile) (lane a v : ℕ) where
  in_entries : (p : ℕ) → p < 2 → InEntry a (entry_at (index t p v) lane) → mem a (trail (entries_of t lane v) []) ≡ true
  unfolding entries_of trail
  in_entries p h e = go (ℕ_discrete p 0)
    where
      go : Dec (p ≡ 0) → mem a (trail (entries_of t lane v) []) ≡ true
      go (yes z) = ⊎_elim (λ e. rw (← e) (mem_head a _)) (λ e. mem-tail a _ _ (rw (← e) (mem_head a _))) (rw z at e)
      go (no z) =
          let one : p ≡ 1 = omega arith in
          ⊎_elim (λ e. mem-tail a _ _ (mem-tail a _ _ (rw (← e) (mem_head a _))))
          (λ e. mem-tail a _ _ (mem-tail a _ _ (mem-tail a _ _ (rw (← e) (mem_head a []))))) (rw one at e)

  entries_in : mem a (trail (entries_of t lane v) []) ≡ true
      → InEntry a (entry_at (index t 0 v) lane) ⊎ InEntry a (entry_at (index t 1 v) lane)
  unfolding entries_of trail
  entries_in m =
      ⊎_elim (λ e. inl (inl e)) (λ m.
      ⊎_elim (λ e. inl (inr e)) (λ m.
      ⊎_elim (λ e. inr (inl e)) (λ m.
      ⊎_elim (λ e. inr (inr e)) (λ q. absurd (mem_none a q))
      (mem_cases a _ [] m))
      (mem_cases a _ _ m))
      (mem_cases a _ _ m))
      (mem_cases a _ _ m)

-- a is an index byte's address, or in one of its entries
abbrev pub IndexHit : Tile → ℕ → List ℕ → ℕ → ℕ → Type 0
IndexHit t lane b a A = (a ≡ A) ⊎ (mem a (trail (entries_of t lane (get_or b A 0)) []) ≡ true)

-- the places of a word that are a step apart
record HitPlace (t : Tile) (lane : ℕ) (b : List ℕ) (a step at : ℕ) : Type 0 where
  pub place : ℕ
  pub small : place < 8
  pub apart : place % step ≡ 0
  pub hits : IndexHit t lane b a (8 * at + place)

-- one of n words from the first on has such a place
record HitWord (t : Tile) (lane : ℕ) (b : List ℕ) (a step first n : ℕ) : Type 0 where
  pub word : ℕ
  pub inside : word < n
  pub places : HitPlace t lane b a step ((first + word) % 256)

module _ (t : Tile) (lane : ℕ) (b : List ℕ) (a step : ℕ) (positive : 0 < step) (small : step ≤ 2) where
  -- the index bytes of a word, and the entries of one
  bytes_at : ℕ → ℕ → Reading
  bytes_at at k = ask_one (8 * at + step * k)

  entries_at : ℕ → ℕ → Reading
  entries_at at k = entries_of t lane (get_or b (8 * at + step * k) 0)

  word_places : (at : ℕ) → mem a (trail (index_word step t lane b at) []) ≡ true → HitPlace t lane b a step at
  unfolding index_word word_reading bytes_at entries_at
  word_places at h =
      ⊎_elim (λ m. let k = found (entries_at at) [] (8 / step) a m in place k.at k.inside (inr k.reads))
      (λ m. let k = found (bytes_at at) [] (8 / step) a m in place k.at k.inside (inl (mem-one a _ k.reads)))
      (then_cases (up_to (8 / step) (entries_at at)) (word_reading step at) [] a h)
    where
      place : (k : ℕ) → k < 8 / step → IndexHit t lane b a (8 * at + step * k) → HitPlace t lane b a step at
      place k l h =
          record { place = step * k; small = place_small step k positive small l; apart = place_apart step k positive small; hits = h }

  places_word : (at : ℕ) → HitPlace t lane b a step at → mem a (trail (index_word step t lane b at) []) ≡ true
  unfolding index_word word_reading bytes_at entries_at
  places_word at h =
      let k : ℕ = h.place / step in
      let p = place_of step h.place positive small h.small h.apart in
      then_mem (up_to (8 / step) (entries_at at)) (word_reading step at) [] a
      (⊎_elim (λ q. inr (covered (bytes_at at) [] (8 / step) k a p.0 (one-mem a _ q)))
      (λ m. inl (covered (entries_at at) [] (8 / step) k a p.0 m)) (rw p.1 at h.hits))

  -- words that have such places read what R reads where R reads those
  module _ (first n : ℕ) (R : Reading) (to : mem a (trail R b) ≡ true → HitWord t lane b a step first n)
      (from : HitWord t lane b a step first n → mem a (trail R b) ≡ true) where
    same_words : mem a (trail (index_words step t lane b first n) []) ≡ mem a (trail R b)
    unfolding index_words
    same_words = same_yes _ _ there back
      where
        there : mem a (trail (up_to n (λ w. index_word step t lane b ((first + w) % 256))) []) ≡ true → mem a (trail R b) ≡ true
        there h =
            let p = found (λ w. index_word step t lane b ((first + w) % 256)) [] n a h in
            from (record { word = p.at; inside = p.inside; places = word_places ((first + p.at) % 256) p.reads })

        back : mem a (trail R b) ≡ true → mem a (trail (up_to n (λ w. index_word step t lane b ((first + w) % 256))) []) ≡ true
        back h =
            let p = to h in
            covered (λ w. index_word step t lane b ((first + w) % 256)) [] n p.word a p.inside
            (places_word ((first + p.word) % 256) p.places)

-- a texel that reads the index byte at A as one in column p does; what it reads, R reads
record Reader (t : Tile) (mode lane : ℕ) (b : List ℕ) (a : ℕ) (R : Reading) (A p : ℕ) : Type 0 where
  pub swap : Bool
  pub rel : ℕ
  pub x : ℕ
  pub there : address 2048 (8 * t.tmem_addr) swap rel ≡ A
  pub same : (v : ℕ) → index t x v ≡ index t p v
  pub among : mem a (trail (texel t mode lane swap rel x) b) ≡ true → mem a (trail R b) ≡ true

module _ (t : Tile) (mode lane : ℕ) (b : List ℕ) (a : ℕ) (by_table : 2 ≤ mode) where
  reads_of : (swap : Bool) (rel x : ℕ) → let A = address 2048 (8 * t.tmem_addr) swap rel in
      let e = entry_at (index t x (get_or b A 0)) lane in
      trail (texel t mode lane swap rel x) b ≡ A ∷ e ∷ (e + 1) ∷ []
  unfolding paletted trail
  reads_of swap rel x = ap (λ r. trail r b) (texel-tlut t mode lane swap rel x by_table)

  texel_hits : (swap : Bool) (rel x : ℕ) → mem a (trail (texel t mode lane swap rel x) b) ≡ true
      → IndexHit t lane b a (address 2048 (8 * t.tmem_addr) swap rel)
  texel_hits swap rel x m =
      let v : ℕ = get_or b (address 2048 (8 * t.tmem_addr) swap rel) 0 in
      let same = index_same t x (x % 2) v (omega arith) in
      let in_one : InEntry a (entry_at (index t x v) lane) → mem a (trail (entries_of t lane v) []) ≡ true =
      λ e. in_entries t lane a v (x % 2) (omega arith) (rw same at e) in
      ⊎_elim (λ e. inl e) (λ m.
      ⊎_elim (λ e. inr (in_one (inl e))) (λ m.
      ⊎_elim (λ e. inr (in_one (inr e))) (λ q. absurd (mem_none a q))
      (mem_cases a _ [] m))
      (mem_cases a _ _ m))
      (mem_cases a _ _ (rw (reads_of swap rel x) at m))

  hits_reading : (R : Reading) (A : ℕ) → ((p : ℕ) → p < 2 → Reader t mode lane b a R A p) → IndexHit t lane b a A
      → mem a (trail R b) ≡ true
  hits_reading R A reader h =
      ⊎_elim
      (λ e. let r = reader 0 (omega arith) in r.among (rw (reads_of r.swap r.rel r.x, r.there, ← e) (mem_head a _)))
      (λ m. ⊎_elim (entry 0 (omega arith)) (entry 1 (omega arith)) (entries_in t lane a (get_or b A 0) m))
      h
    where
      entry : (p : ℕ) → p < 2 → InEntry a (entry_at (index t p (get_or b A 0)) lane) → mem a (trail R b) ≡ true
      entry p l e =
          let r = reader p l in
          r.among
          (rw (reads_of r.swap r.rel r.x, r.there, r.same)
          (⊎_elim (λ e. mem-tail a _ _ (rw (← e) (mem_head a _))) (λ e. mem-tail a _ _ (mem-tail a _ _ (rw (← e) (mem_head a [])))) e))

  -- every index byte of the lower half
  lookup_words : mem a (trail (index_words 1 t lane b 0 256) []) ≡ mem a (trail (lookup t mode lane) b)
  unfolding lookup lookup_row
  lookup_words = same_words t lane b a 1 (omega arith) (omega arith) 0 256 (lookup t mode lane) to from
    where
      to : mem a (trail (lookup t mode lane) b) ≡ true → HitWord t lane b a 1 0 256
      to h =
          let r = found (λ r. up_to 4096 (λ rel. texel t mode lane (odd (r / 2)) rel (r % 2))) b 4 a h in
          let c = found (λ rel. texel t mode lane (odd (r.at / 2)) rel (r.at % 2)) b 4096 a r.reads in
          let A : ℕ = address 2048 (8 * t.tmem_addr) (odd (r.at / 2)) c.at in
          let e : A ≡ 8 * ((0 + A / 8) % 256) + A % 8 = omega arith in
          let h = rw e at (texel_hits (odd (r.at / 2)) c.at (r.at % 2) c.reads) in
          record {
            word = A / 8;
            inside = omega arith;
            places = record { place = A % 8; small = omega arith; apart = omega arith; hits = h };
          }

      from : HitWord t lane b a 1 0 256 → mem a (trail (lookup t mode lane) b) ≡ true
      from h = hits_reading (lookup t mode lane) _ reader h.places.hits
        where
          reader : (p : ℕ) → p < 2 → Reader t mode lane b a (lookup t mode lane) (8 * ((0 + h.word) % 256) + h.places.place) p
          reader p l =
              let A : ℕ = 8 * ((0 + h.word) % 256) + h.places.place in
              let rel : ℕ = (A + (2048 - 8 * t.tmem_addr % 2048)) % 2048 in
              let none : p / 2 ≡ 0 = omega arith in
              let even : odd (p / 2) ≡ false = rw none in
              record {
                swap = false;
                rel = rel;
                x = p % 2;
                there = omega (arith, h.places.small);
                same = λ v. index_same t (p % 2) p v (omega arith);
                among = λ m.
                    covered (λ r. up_to 4096 (λ rel. texel t mode lane (odd (r / 2)) rel (r % 2))) b 4 p a (omega arith)
                    (covered (λ rel. texel t mode lane (odd (p / 2)) rel (p % 2)) b 4096 rel a (omega arith) (rw even m));
              }

  -- The whole words of a row, by its texels to a word and the texel of a byte in column p. Bytes whose number the step divides stay such
  -- in their word, and where its halves change places.
  module _ (o : Bool) (s n step T : ℕ) (pick : ℕ → ℕ → ℕ)
      (divided : (w r : ℕ) → r % step ≡ 0 → (turned o (r % 8) % step ≡ 0) × ((8 * w + r) % step ≡ 0))
      (below : (x : ℕ) → x < T * n → (column t mode x < 8 * n) × (column t mode x % step ≡ 0))
      (back : (c p : ℕ) → c < 8 * n → c % step ≡ 0 → p < 2
      → (pick c p < T * n) × (column t mode (pick c p) ≡ c) × ((v : ℕ) → index t (pick c p) v ≡ index t p v))
      (positive : 0 < step) (small : step ≤ 2) where
    index_row : mem a (trail (index_words step t lane b (t.tmem_addr + s) n) [])
        ≡ mem a (trail (up_to (T * n) (row_texel t mode lane o s)) b)
    index_row = same_words t lane b a step positive small (t.tmem_addr + s) n (up_to (T * n) (row_texel t mode lane o s)) to from
      where
        to : mem a (trail (up_to (T * n) (row_texel t mode lane o s)) b) ≡ true → HitWord t lane b a step (t.tmem_addr + s) n
        to h =
            let x = found (row_texel t mode lane o s) b (T * n) a h in
            let c : ℕ = column t mode x.at in
            let q = below x.at x.inside in
            record {
              word = c / 8;
              inside = omega (arith, q.0);
              places =
                  record {
                    place = turned o (c % 8);
                    small = turned_lt o (c % 8) (omega arith);
                    apart = (divided 0 c q.1).0;
                    hits = rw (byte_at o t.tmem_addr s c) at (texel_hits o (8 * s + c) x.at x.reads);
                  };
            }

        from : HitWord t lane b a step (t.tmem_addr + s) n → mem a (trail (up_to (T * n) (row_texel t mode lane o s)) b) ≡ true
        from h = hits_reading (up_to (T * n) (row_texel t mode lane o s)) _ reader h.places.hits
          where
            reader : (p : ℕ) → p < 2 → Reader t mode lane b a (up_to (T * n) (row_texel t mode lane o s))
                (8 * ((t.tmem_addr + s + h.word) % 256) + h.places.place) p
            reader p l =
                let k : ℕ = h.places.place in
                let r : ℕ = turned o k in
                let small = turned_lt o k h.places.small in
                let own : k % 8 ≡ k = omega (arith, h.places.small) in
                let apart : r % step ≡ 0 = rw own at (divided 0 k h.places.apart).0 in
                let c : ℕ = 8 * h.word + r in
                let q = back c p (omega (arith, h.inside)) (divided h.word r apart).1 l in
                let e = at_byte o t.tmem_addr s h.word r small in
                let twice = turned_twice o k h.places.small in
                record {
                  swap = o;
                  rel = 8 * s + column t mode (pick c p);
                  x = pick c p;
                  there = rw q.1 (omega (arith, e, twice, h.places.small));
                  same = q.2;
                  among = covered (row_texel t mode lane o s) b (T * n) (pick c p) a q.0;
                }

  -- whatever the size
  module _ (o : Bool) (s n : ℕ) (not_yuv : eqb t.fmt 1 ≡ false) where
    column_of : (x : ℕ) → column t mode x ≡ cond (eqb t.siz 0) (x / 2) (cond (eqb t.siz 1) x (2 * x))
    column_of x = rw not_yuv

    -- every number is divided by one
    any-byte : (w r : ℕ) → r % 1 ≡ 0 → (turned o (r % 8) % 1 ≡ 0) × ((8 * w + r) % 1 ≡ 0)
    any-byte w r h = (omega arith, omega arith)

    same_indices : t.siz < 2 → mem a (trail (index_words 1 t lane b (t.tmem_addr + s) n) [])
        ≡ mem a (trail (up_to (word_texels t.siz * n) (row_texel t mode lane o s)) b)
    same_indices short = go (ℕ_discrete t.siz 0)
      where
        go : Dec (t.siz ≡ 0) → mem a (trail (index_words 1 t lane b (t.tmem_addr + s) n) [])
            ≡ mem a (trail (up_to (word_texels t.siz * n) (row_texel t mode lane o s)) b)
        go (yes z) =
            let w : word_texels t.siz ≡ 16 = rw z in
            rw w
            (index_row o s n 1 16 (λ c p. 2 * c + p) any-byte (λ x l. (rw (column_of x, z) (omega arith), omega arith))
            (λ c p l d h. (omega arith, rw (column_of (2 * c + p), z) (omega arith), λ v. index_same t (2 * c + p) p v (omega arith)))
            (omega arith) (omega arith))
        go (no z) =
            let e : t.siz ≡ 1 = omega arith in
            let w : word_texels t.siz ≡ 8 = rw e in
            rw w
            (index_row o s n 1 8 (λ c p. c) any-byte (λ x l. (rw (column_of x, e) l, omega arith))
            (λ c p l d h. (l, rw (column_of c, e), λ v. rw e)) (omega arith) (omega arith))

    even_byte : (w r : ℕ) → r % 2 ≡ 0 → (turned o (r % 8) % 2 ≡ 0) × ((8 * w + r) % 2 ≡ 0)
    even_byte w r h = (turned_even o (r % 8) (omega arith), omega arith)

    same_sparse : 2 ≤ t.siz → mem a (trail (index_words 2 t lane b (t.tmem_addr + s) n) [])
        ≡ mem a (trail (up_to (word_texels t.siz * n) (row_texel t mode lane o s)) b)
    same_sparse long =
        let z : eqb t.siz 0 ≡ false = ne_eqb t.siz 0 (λ e. omega arith) in
        let d : eqb t.siz 1 ≡ false = ne_eqb t.siz 1 (λ e. omega arith) in
        let w : word_texels t.siz ≡ 4 = rw (z, d) in
        let twice : (x : ℕ) → column t mode x ≡ 2 * x = λ x. column_of x ∙ rw (z, d) in
        rw w
        (index_row o s n 2 4 (λ c p. c / 2) even_byte (λ x l. rw (twice x) (omega arith, omega arith))
        (λ c p l e h. (omega arith, rw (twice (c / 2)) (omega arith), λ v. rw z)) (omega arith) (omega arith))

-- the words of row y are noted: so are its texels, as many as they have
module _ (t : Tile) (mode lane y words : ℕ) (b seen u : List ℕ) (by_table : 2 ≤ mode) (not_yuv : eqb t.fmt 1 ≡ false) where
  abbrev RowNoted : Type 0
  RowNoted =
      u ≡ noted seen (trail (up_to (word_texels t.siz * words) (λ x. texel t mode lane (odd y) (row_start t y + column t mode x) x)) b)

  pub index_row_noted : t.siz < 2 → u ≡ noted seen (trail (index_words 1 t lane b (t.tmem_addr + row_start t y / 8) words) []) → RowNoted
  index_row_noted short e =
      e
      ∙ noted-same seen _ _
      (λ a. rw (start_word t y, start_bytes t y) (same_indices t mode lane b a by_table (odd y) (y % 256 * t.line) words not_yuv short))

  pub sparse_row_noted : 2 ≤ t.siz → u ≡ noted seen (trail (index_words 2 t lane b (t.tmem_addr + row_start t y / 8) words) []) → RowNoted
  sparse_row_noted long e =
      e
      ∙ noted-same seen _ _
      (λ a. rw (start_word t y, start_bytes t y) (same_sparse t mode lane b a by_table (odd y) (y % 256 * t.line) words not_yuv long))

-- all words of the lower half are noted: so is a lookup
pub lookup_noted : (t : Tile) (mode lane : ℕ) (b seen u : List ℕ) → 2 ≤ mode → u ≡ noted seen (trail (index_words 1 t lane b 0 256) [])
    → u ≡ noted seen (trail (lookup t mode lane) b)
lookup_noted t mode lane b seen u h e = e ∙ noted-same seen _ _ (λ a. lookup_words t mode lane b a h)
