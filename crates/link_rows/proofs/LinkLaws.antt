-- Laws of links as rows of bits.
use Prim.Native.Nat.{ℕ, ◌+◌, ◌*◌, ◌/◌, ◌%◌, ◌^◌, ◌≤◌, ◌<◌}
use mathlib.Core.Path.{◌≡◌, refl, sym, ap, subst, ◌∙◌}
use mathlib.Core.Logic.{◌≢◌}
use mathlib.Core.Bool.{Bool, true, false, not, ◌&&◌, ◌||◌, and-false}
use mathlib.Core.List.{List}
use lib.ListN.{length, get_or, set, replicate, length-set}
use lib.Seq.{get_or-set_same, get_or-set_other}
use lib.Dec.{eqb, ltb}
use lib.Pow.{pow-lt, pow_pos}
use native.Mathlib.Omega.{arith}
use borrow.Author.Tests.{lt-ltb, ltb-true, ltb-false, eqb-true, eqb-false, eq-eqb, ne_eqb, not-true}
use Rattle.std.specs.Prelude.{if◌then◌else◌}
use Rattle.base.specs.Lists.{all_below, below, tabulate}
use Rattle.base.proofs.Booleans.{both, passes, negates, iff, clash, Trichotomy, less, equal, more, trichotomy}
use Rattle.base.proofs.Lists.{all-below, all-below-at, set-either}
use Rattle.base.proofs.Loops.{tabulate-at, tabulate-set, tabulate-constant, below-same, below-past}
use Rattle.model.specs.Memory.{Network, place, pair_place, link_in}
use Rattle.model.specs.Calls.{bit}
use Rattle.link_rows.specs.Links.{stations_in, linked, pair_up, links_of, link_row_in_range, links_in_range, where_read, LinkSet}
use Rattle.link_rows.proofs.Bits.{bit-above, bit-zero, bits-bound}

-- What the range test says.
pub record RowsInRange (n : ℕ) (rows : List ℕ) : Type 0 where
  pub within : (a : ℕ) → a < n → get_or rows a 0 < 2 ^ n
  pub not_itself : (a : ℕ) → a < n → linked rows a a ≡ false
  pub symmetric : (a b : ℕ) → a < n → b < n → linked rows a b ≡ true → linked rows b a ≡ true

implies : (x y : Bool) → not x || y ≡ true → x ≡ true → y ≡ true
implies true y h e = h
implies false y h e = clash e refl

implied : (x y : Bool) → (x ≡ true → y ≡ true) → not x || y ≡ true
implied true y h = h refl
implied false y h = refl

module _ (n : ℕ) (rows : List ℕ) where
  parts : links_in_range n rows ≡ true → (a : ℕ) → a < n
      → (ltb (get_or rows a 0) (2 ^ n) ≡ true) × (not (linked rows a a) ≡ true) × (all_below n (λ b. not (linked rows a b) || linked rows b a) ≡ true)
  unfolding links_in_range link_row_in_range
  parts h a l =
      let whole = both (ltb (get_or rows a 0) (2 ^ n) && not (linked rows a a)) _ (all-below-at n (link_row_in_range n rows) h a l) in
      let first = both (ltb (get_or rows a 0) (2 ^ n)) _ whole.0 in
      (first.0, first.1, whole.1)

  pub rows_tell : links_in_range n rows ≡ true → RowsInRange n rows
  rows_tell h = record {
    within = λ a l. ltb-true _ _ (parts h a l).0;
    not_itself = λ a l. not-true (linked rows a a) (parts h a l).1;
    symmetric = λ a b l m. implies (linked rows a b) (linked rows b a) (all-below-at n _ (parts h a l).2 b m);
  }

  pub rows_told : RowsInRange n rows → links_in_range n rows ≡ true
  unfolding links_in_range link_row_in_range
  rows_told r =
      all-below n (link_row_in_range n rows) (λ a l.
      passes (passes (lt-ltb _ _ (r.within a l)) (negates (r.not_itself a l)))
      (all-below n _ (λ b m. implied (linked rows a b) (linked rows b a) (r.symmetric a b l m))))

-- The pair at a place.
pair-at : (n : ℕ) (rows : List ℕ) (i t : ℕ) → i < 16 → t < 16 → get_or (links_of n rows) (place i t) false ≡ ltb i t && ltb t n && linked rows i t
unfolding links_of pair_up
pair-at n rows i t h k =
    let p : (16 * i + t) / 16 ≡ i = omega arith in
    let q : (16 * i + t) % 16 ≡ t = omega arith in
    tabulate-at 256 (pair_up n rows) (place i t) false (omega arith) ∙ rw (p, q)

-- Rows in range, read as pairs: a link is up if one row, and so the other, names its station; the up neighbours of a station are those that its row names.
module _ (n : ℕ) (rows : List ℕ) (high : n ≤ 16) (h : links_in_range n rows ≡ true) where
  ranged : RowsInRange n rows
  ranged = rows_tell n rows h

  pub none-past : (a b : ℕ) → a < n → n ≤ b → linked rows a b ≡ false
  none-past a b l m = bit-above n (get_or rows a 0) b (ranged.within a l) m

  pub link-is : (a b : ℕ) → a < n → b < 16 → link_in (links_of n rows) a b ≡ linked rows a b
  unfolding link_in
  link-is a b l m = go (trichotomy a b)
    where
      past : (x : Bool) → ltb b n ≡ x → x && linked rows a b ≡ linked rows a b
      past true e = refl
      past false e = sym (none-past a b l (ltb-false b n e))

      go : Trichotomy a b → not (eqb a b) && get_or (links_of n rows) (pair_place a b) false ≡ linked rows a b
      go (less q) =
          let at : pair_place a b ≡ place a b = omega arith in
          rw (at, ne_eqb a b (λ e. omega arith), pair-at n rows a b (omega arith) m, lt-ltb a b q) (past (ltb b n) refl)
      go (equal q) = rw (eq-eqb a b q) (sym (subst (λ x. linked rows a x ≡ false) q (ranged.not_itself a l)))
      go (more q) =
          let at : pair_place a b ≡ place b a = omega arith in
          rw (at, ne_eqb a b (λ e. omega arith), pair-at n rows b a m (omega arith), lt-ltb b a q, lt-ltb a n l)
          (iff _ _ (ranged.symmetric b a (omega arith) l) (ranged.symmetric a b l (omega arith)))

  pub neighbours-are : (a : ℕ) → a < n → below n (link_in (links_of n rows) a) ≡ stations_in (get_or rows a 0)
  neighbours-are a l =
      below-same n _ _ (λ b m. link-is a b l (omega arith)) ∙ sym (below-past (bit (get_or rows a 0)) 16 n high (λ b m. none-past a b l m))

  pub is_read : (net : Network) → where_read n rows net ≡ net
  unfolding where_read
  is_read net = rw h

-- Fresh rows.
pub fresh-rows : (n : ℕ) (rows : List ℕ) → ((a : ℕ) → get_or rows a 0 ≡ 0) → RowsInRange n rows
fresh-rows n rows e = record {
  within = λ a l. rw (e a) (pow_pos n);
  not_itself = λ a l. rw (e a) (bit-zero a);
  symmetric = λ a b l m q. clash q (rw (e a) (bit-zero b));
}

-- The link of a and b set, by a bit in the row of each.
both_ways : (p q r s : Bool) → p && q || r && s ≡ s && r || q && p
both_ways true true true true = refl
both_ways true true true false = refl
both_ways true true false true = refl
both_ways true true false false = refl
both_ways true false true true = refl
both_ways true false true false = refl
both_ways true false false true = refl
both_ways true false false false = refl
both_ways false q true true = refl
both_ways false q true false = sym (and-false q)
both_ways false q false true = sym (and-false q)
both_ways false q false false = sym (and-false q)

module _ (up : Bool) (rows : List ℕ) (a b x y : ℕ) (long : length rows ≡ 16) (la : a < 16) (lb : b < 16) (hx : x < 2 ^ 16) (hy : y < 2 ^ 16)
    (first : (u : ℕ) → bit x u ≡ (if eqb b u then up else linked rows a u)) (second : (u : ℕ) → bit y u ≡ (if eqb a u then up else linked rows b u)) where
  abbrev after : List ℕ
  after = set (set rows a x) b y

  abbrev pair : ℕ → ℕ → Bool
  pair i t = eqb a i && eqb b t || eqb b i && eqb a t

  pair-swap : (i t : ℕ) → pair i t ≡ pair t i
  pair-swap i t = both_ways (eqb a i) (eqb b t) (eqb b i) (eqb a t)

  module _ (apart : a ≢ b) where
    linked-after : (i t : ℕ) → linked after i t ≡ (if pair i t then up else linked rows i t)
    linked-after i t = go (eqb b i) refl (eqb a i) refl
      where
        go : (p : Bool) → eqb b i ≡ p → (q : Bool) → eqb a i ≡ q → linked after i t ≡ (if q && eqb b t || p && eqb a t then up else linked rows i t)
        go true p true q = absurd (apart (eqb-true a i q ∙ sym (eqb-true b i p)))
        go true p false q =
            let e = eqb-true b i p in
            rw (← e, get_or-set_same (set rows a x) b y 0 (omega (arith, length-set rows a x, long, lb))) (second t)
        go false p true q =
            let e = eqb-true a i q in
            let f : i ≢ b = λ z. eqb-false b i p (sym z) in
            rw (get_or-set_other (set rows a x) b i y 0 f, ← e, get_or-set_same rows a x 0 (omega (arith, long, la))) (first t ∙ choice (eqb b t))
          where
            choice : (z : Bool) → (if z then up else linked rows a t) ≡ (if z || false then up else linked rows a t)
            choice true = refl
            choice false = refl
        go false p false q =
            let e : i ≢ a = λ z. eqb-false a i q (sym z) in
            let f : i ≢ b = λ z. eqb-false b i p (sym z) in
            rw (get_or-set_other (set rows a x) b i y 0 f, get_or-set_other rows a i x 0 e)

    module _ (n : ℕ) (high : n ≤ 16) (an : a < n) (bn : b < n) (h : links_in_range n rows ≡ true) where
      before : RowsInRange n rows
      before = rows_tell n rows h

      narrow : (i : ℕ) → i < n → get_or after i 0 < 2 ^ 16
      narrow i l =
          set-either (λ z. z < 2 ^ 16) (set rows a x) b i y 0 (λ e. hy)
          (set-either (λ z. z < 2 ^ 16) rows a i x 0 (λ e. hx) (wide n high (before.within i l)))
        where
          wide : (k : ℕ) → k ≤ 16 → get_or rows i 0 < 2 ^ k → get_or rows i 0 < 2 ^ 16
          wide k m q = go (trichotomy k 16)
            where
              go : Trichotomy k 16 → get_or rows i 0 < 2 ^ 16
              go (less z) = omega (arith, q, pow-lt z)
              go (equal z) = rw z at q
              go (more z) = absurd (omega arith)

      past : (i u : ℕ) → i < n → n ≤ u → linked after i u ≡ false
      past i u l m =
          linked-after i u
          ∙ rw (ne_eqb b u (λ e. omega arith), ne_eqb a u (λ e. omega arith), and-false (eqb a i), and-false (eqb b i)) (none-past n rows high h i u l m)

      itself : (i : ℕ) → i < n → linked after i i ≡ false
      itself i l = linked-after i i ∙ go (eqb a i) refl (eqb b i) refl
        where
          go : (p : Bool) → eqb a i ≡ p → (q : Bool) → eqb b i ≡ q → (if p && q || q && p then up else linked rows i i) ≡ false
          go true p true q = absurd (apart (eqb-true a i p ∙ sym (eqb-true b i q)))
          go true p false q = before.not_itself i l
          go false p true q = before.not_itself i l
          go false p false q = before.not_itself i l

      back : (i t : ℕ) → i < n → t < n → linked after i t ≡ true → linked after t i ≡ true
      back i t l m e = linked-after t i ∙ go (pair i t) refl (sym (linked-after i t) ∙ e)
        where
          go : (p : Bool) → pair i t ≡ p → (if p then up else linked rows i t) ≡ true → (if pair t i then up else linked rows t i) ≡ true
          go true p q = rw (← pair-swap i t, p) q
          go false p q = rw (← pair-swap i t, p) (before.symmetric i t l m q)

      set-in-range : links_in_range n after ≡ true
      set-in-range = rows_told n after (record { within = λ i l. bits-bound 16 n (get_or after i 0) (narrow i l) (λ u m. past i u l m); not_itself = itself; symmetric = back })

      at_pair : pair_up n after (pair_place a b) ≡ up
      unfolding pair_up
      at_pair = go (trichotomy a b)
        where
          go : Trichotomy a b → ltb (pair_place a b / 16) (pair_place a b % 16) && ltb (pair_place a b % 16) n && linked after (pair_place a b / 16) (pair_place a b % 16) ≡ up
          go (less l) =
              let p : pair_place a b / 16 ≡ a = omega arith in
              let q : pair_place a b % 16 ≡ b = omega arith in
              rw (p, q, lt-ltb a b l, lt-ltb b n bn, linked-after a b, eq-eqb a a refl, eq-eqb b b refl)
          go (equal l) = absurd (apart l)
          go (more l) =
              let p : pair_place a b / 16 ≡ b = omega arith in
              let q : pair_place a b % 16 ≡ a = omega arith in
              rw (p, q, lt-ltb b a l, lt-ltb a n an, linked-after b a, ne_eqb a b apart, eq-eqb a a refl, eq-eqb b b refl)

      elsewhere : (k : ℕ) → k < 256 → k ≢ pair_place a b → pair_up n after k ≡ pair_up n rows k
      unfolding pair_up
      elsewhere k l other = go (ltb (k / 16) (k % 16)) refl
        where
          not-pair : k / 16 < k % 16 → pair (k / 16) (k % 16) ≡ false
          not-pair m = test (eqb a (k / 16)) refl (eqb b (k % 16)) refl (eqb b (k / 16)) refl (eqb a (k % 16)) refl
            where
              test : (p : Bool) → eqb a (k / 16) ≡ p → (q : Bool) → eqb b (k % 16) ≡ q → (r : Bool) → eqb b (k / 16) ≡ r → (s : Bool) → eqb a (k % 16) ≡ s → p && q || r && s ≡ false
              test true p true q r e s f = absurd (other (let u = eqb-true a (k / 16) p in let v = eqb-true b (k % 16) q in omega arith))
              test true p false q true r true s = absurd (other (let u = eqb-true b (k / 16) r in let v = eqb-true a (k % 16) s in omega arith))
              test false p q e true r true s = absurd (other (let u = eqb-true b (k / 16) r in let v = eqb-true a (k % 16) s in omega arith))
              test true p false q true r false s = refl
              test true p false q false r s f = refl
              test false p q e true r false s = refl
              test false p q e false r s f = refl

          go : (p : Bool) → ltb (k / 16) (k % 16) ≡ p → p && ltb (k % 16) n && linked after (k / 16) (k % 16) ≡ p && ltb (k % 16) n && linked rows (k / 16) (k % 16)
          go true p = rw (linked-after (k / 16) (k % 16), not-pair (ltb-true _ _ p))
          go false p = refl

      set-pairs : links_of n after ≡ set (links_of n rows) (pair_place a b) up
      unfolding links_of
      set-pairs = tabulate-set 256 (pair_up n rows) (pair_up n after) (pair_place a b) elsewhere ∙ ap (set (tabulate 256 (pair_up n rows)) (pair_place a b)) at_pair

  pub link_set : LinkSet up rows a b after
  link_set = record { in-range = λ n high an bn apart h. set-in-range apart n high an bn h; pairs = λ n high an bn apart h. set-pairs apart n high an bn h }

-- No link is up where no row names a station.
pub fresh-links : (n : ℕ) (rows : List ℕ) → ((a : ℕ) → get_or rows a 0 ≡ 0) → links_of n rows ≡ replicate 256 false
unfolding links_of pair_up
fresh-links n rows e =
    tabulate-constant 256 (pair_up n rows) false (λ k l. rw (e (k / 16), bit-zero (k % 16), and-false (ltb (k / 16) (k % 16) && ltb (k % 16) n)))
