-- What a loop over 0 .. c knows: laws of tests and lists that grow by one number at a time.
use Prim.Native.Nat.{ℕ, zero, suc, ◌+◌, ◌-◌, ◌*◌, ◌/◌, ◌%◌, ◌≤◌, ◌<◌}
use mathlib.Core.Path.{◌≡◌, refl, sym, ap, ap₂, subst, ◌∙◌}
use mathlib.Core.Logic.{◌≢◌}
use mathlib.Core.Bool.{Bool, true, false, not, ◌&&◌, ◌||◌, and-true, and_assoc}
use mathlib.Core.List.{List, [], ◌∷◌, ◌++◌, map, tail, append-nil, map-append, append_assoc}
use lib.ListN.{length, get_or, set, take, drop, replicate, take-append-drop, length-append, length-take, length-drop, length-set, length-replicate, length-map, get_or-replicate, get_or-append, get_or-eq_default, get_or-map}
use lib.Seq.{ext_get_or, get_or_at, get_or-take, get_or-set_same, get_or-set_other, length-take-le, take_at, take-suc-set, take_all, slice_empty}
use lib.Dec.{ltb, leb, eqb}
use native.Mathlib.Numerals.{add-one}
use native.Mathlib.Omega.{arith}
use borrow.Author.Tests.{lt-ltb, le-ltb, ltb-true, ltb-false, eqb-true, eqb-false, lt-leb, leb-false, not-true}
use Rattle.std.specs.Prelude.{if◌then◌else◌}
use Rattle.base.specs.Lists.{all_below, below, all_in, some_in, keep, is_empty, tabulate, index_of, distinct, remove_at, removed}
use Rattle.base.proofs.Booleans.{clash, passes, iff, choose, Trichotomy, less, equal, more, trichotomy}
use Rattle.base.proofs.Lists.{all-below, all-below-at, empty-length, map-set, distinct_more}

-- A loop that ends early at the first number below n that fails: what it knows before its first turn, how it goes on, how it ends early,
-- and how it comes to its end.
pub all_none : (f : ℕ → Bool) → all_below 0 f ≡ true
unfolding all_below
all_none f = refl

pub all_more : (i : ℕ) (f : ℕ → Bool) → all_below i f ≡ true → f i ≡ true → all_below (i + 1) f ≡ true
unfolding all_below
all_more i f h k = rw add-one (passes h k)

pub all-broken : (n : ℕ) (f : ℕ → Bool) (i : ℕ) → i < n → f i ≡ false → all_below n f ≡ false
unfolding all_below
all-broken n f i h e = go (all_below n f) refl
  where
    go : (b : Bool) → all_below n f ≡ b → b ≡ false
    go true k = clash (all-below-at n f k i h) e
    go false k = refl

pub all-ends : (n : ℕ) (f : ℕ → Bool) (i : ℕ) → i ≡ n → all_below i f ≡ true → all_below n f ≡ true
all-ends n f i e h = rw e at h

-- Two tests of every number at once.
pub all-pairs : (n : ℕ) (f g : ℕ → Bool) → all_below n (λ i. f i && g i) ≡ all_below n f && all_below n g
unfolding all_below
all-pairs zero f g = refl
all-pairs (suc n) f g = rw (all-pairs n f g) (shuffle (all_below n f) (all_below n g) (f n) (g n))
  where
    shuffle : (a b c d : Bool) → (a && b) && (c && d) ≡ (a && c) && (b && d)
    shuffle true true c d = refl
    shuffle true false true d = refl
    shuffle true false false d = refl
    shuffle false b c d = refl

-- Every pair of numbers below n, by one loop over the places 16 · i + t with i below n.
pub all-square : (n : ℕ) (g : ℕ → ℕ → Bool) → n ≤ 16
    → all_below (16 * n) (λ at. leb n (at % 16) || g (at / 16) (at % 16)) ≡ all_below n (λ i. all_below n (g i))
all-square n g h = iff _ _ there back
  where
    test : ℕ → Bool
    test at = leb n (at % 16) || g (at / 16) (at % 16)

    there : all_below (16 * n) test ≡ true → all_below n (λ i. all_below n (g i)) ≡ true
    there e = all-below n _ (λ i l. all-below n (g i) (λ t m.
        let p : (16 * i + t) / 16 ≡ i = omega arith in
        let q : (16 * i + t) % 16 ≡ t = omega arith in
        rw (p, q, lt-leb n t m) at (all-below-at (16 * n) test e (16 * i + t) (omega arith))))

    back : all_below n (λ i. all_below n (g i)) ≡ true → all_below (16 * n) test ≡ true
    back e = all-below (16 * n) test (λ at l. go at l (leb n (at % 16)) refl)
      where
        go : (at : ℕ) → at < 16 * n → (b : Bool) → leb n (at % 16) ≡ b → b || g (at / 16) (at % 16) ≡ true
        go at l true k = refl
        go at l false k =
            all-below-at n (g (at / 16)) (all-below-at n (λ i. all_below n (g i)) e (at / 16) (omega arith)) (at % 16) (leb-false n (at % 16) k)

-- The numbers that pass, one more at a time.
module _ (f : ℕ → Bool) where
  pub below-yes : (n : ℕ) → f n ≡ true → below (n + 1) f ≡ below n f ++ (n ∷ [])
  unfolding below
  below-yes n e = rw (add-one, e)

  pub below-no : (n : ℕ) → f n ≡ false → below (n + 1) f ≡ below n f
  unfolding below
  below-no n e = rw (add-one, e) (append-nil (below n f))

  pub below_length : (n : ℕ) → length (below n f) ≤ n
  unfolding below
  below_length zero = omega arith
  below_length (suc n) =
      let h = below_length n in
      rw (length-append (below n f))
      (choose (λ (z : List ℕ). length (below n f) + length z ≤ suc n) (f n) (λ e. omega arith) (λ e. omega arith))

  pub below-grows : (n c : ℕ) → n ≤ c → length (below n f) ≤ length (below c f)
  unfolding below
  below-grows n zero h = let e : n ≡ 0 = omega arith in rw e (omega arith)
  below-grows n (suc c) h = go (trichotomy n (suc c)) (λ l. below-grows n c (omega arith))
    where
      go : Trichotomy n (suc c) → (n < suc c → length (below n f) ≤ length (below c f)) → length (below n f) ≤ length (below (suc c) f)
      go (less l) ih = omega (arith, ih l, length-append (below c f) (if f c then c ∷ [] else []))
      go (equal q) ih = rw q (omega arith)
      go (more l) ih = absurd (omega arith)

  -- A number that passes is one more than those before it.
  pub below_next : (n c : ℕ) → n < c → f n ≡ true → length (below n f) < length (below c f)
  below_next n c h e =
      let more = ap length (below-yes n e) ∙ length-append (below n f) (n ∷ []) in
      omega (arith, more, below-grows (n + 1) c (omega arith))

  -- No number from n on passes.
  pub below-past : (c n : ℕ) → n ≤ c → ((k : ℕ) → n ≤ k → f k ≡ false) → below c f ≡ below n f
  unfolding below
  below-past zero n h none = let e : n ≡ 0 = omega arith in rw e refl
  below-past (suc c) n h none = go (trichotomy n (suc c)) (λ l. below-past c n (omega arith) none)
    where
      go : Trichotomy n (suc c) → (n < suc c → below c f ≡ below n f) → below (suc c) f ≡ below n f
      go (less l) ih = rw (none c (omega arith)) (append-nil (below c f) ∙ ih l)
      go (equal q) ih = rw q refl
      go (more l) ih = absurd (omega arith)

  -- A value for each, after a list.
  module _ {A : Type 0} (g : ℕ → A) (l : List A) where
    pub map-below-yes : (n : ℕ) → f n ≡ true → l ++ map g (below (n + 1) f) ≡ (l ++ map g (below n f)) ++ (g n ∷ [])
    map-below-yes n e = rw (below-yes n e, map-append g (below n f) (n ∷ [])) (sym (append_assoc l (map g (below n f)) (g n ∷ [])))

    pub map-below-no : (n : ℕ) → f n ≡ false → l ++ map g (below (n + 1) f) ≡ l ++ map g (below n f)
    map-below-no n e = rw (below-no n e)

pub below-same : (n : ℕ) (f g : ℕ → Bool) → ((k : ℕ) → k < n → f k ≡ g k) → below n f ≡ below n g
unfolding below
below-same zero f g h = refl
below-same (suc n) f g h = rw (below-same n f g (λ k l. h k (omega arith)), h n (omega arith))

-- The values of a function at the numbers below c.
module _ {A : Type 0} where
  pub tabulate-length : (c : ℕ) (f : ℕ → A) → length (tabulate c f) ≡ c
  unfolding tabulate
  tabulate-length zero f = refl
  tabulate-length (suc c) f = length-append (tabulate c f) (f c ∷ []) ∙ rw (tabulate-length c f) (add-one c)

  pub tabulate-more : (c : ℕ) (f : ℕ → A) → tabulate (c + 1) f ≡ tabulate c f ++ (f c ∷ [])
  unfolding tabulate
  tabulate-more c f = rw add-one refl

  pub tabulate-at : (c : ℕ) (f : ℕ → A) (k : ℕ) (d : A) → k < c → get_or (tabulate c f) k d ≡ f k
  unfolding tabulate
  tabulate-at zero f k d h = absurd (omega arith)
  tabulate-at (suc c) f k d h = go (trichotomy k c) (λ l. tabulate-at c f k d l)
    where
      go : Trichotomy k c → (k < c → get_or (tabulate c f) k d ≡ f k) → get_or (tabulate c f ++ (f c ∷ [])) k d ≡ f k
      go (less l) ih = get_or-append (tabulate c f) (f c ∷ []) d k (omega (arith, tabulate-length c f)) ∙ ih l
      go (equal q) ih = rw q (get_or_at (tabulate c f) (f c) [] d c (tabulate-length c f))
      go (more l) ih = absurd (omega arith)

  pub tabulate-same : (c : ℕ) (f g : ℕ → A) → ((k : ℕ) → k < c → f k ≡ g k) → tabulate c f ≡ tabulate c g
  unfolding tabulate
  tabulate-same zero f g h = refl
  tabulate-same (suc c) f g h = ap₂ (λ (l : List A) (x : A). l ++ (x ∷ [])) (tabulate-same c f g (λ k l. h k (omega arith))) (h c (omega arith))

  -- Where one place changes, the list has the new value there; past the end nothing changes.
  pub tabulate-set : (c : ℕ) (f g : ℕ → A) (i : ℕ) → ((k : ℕ) → k < c → k ≢ i → g k ≡ f k) → tabulate c g ≡ set (tabulate c f) i (g i)
  tabulate-set c f g i h =
      ext_get_or (g i) (tabulate c g) (set (tabulate c f) i (g i)) (tabulate-length c g ∙ sym (length-set (tabulate c f) i (g i) ∙ tabulate-length c f))
      (λ k l. at k (omega (arith, tabulate-length c g)))
    where
      at : (k : ℕ) → k < c → get_or (tabulate c g) k (g i) ≡ get_or (set (tabulate c f) i (g i)) k (g i)
      at k l = tabulate-at c g k (g i) l ∙ go (eqb k i) refl
        where
          go : (b : Bool) → eqb k i ≡ b → g k ≡ get_or (set (tabulate c f) i (g i)) k (g i)
          go true e =
              let q : k ≡ i = eqb-true k i e in
              ap g q ∙ sym (rw q (get_or-set_same (tabulate c f) i (g i) (g i) (omega (arith, tabulate-length c f))))
          go false e =
              let q : k ≢ i = eqb-false k i e in
              h k l q ∙ sym (get_or-set_other (tabulate c f) i k (g i) (g i) q ∙ tabulate-at c f k (g i) l)

  pub tabulate-constant : (c : ℕ) (f : ℕ → A) (a : A) → ((k : ℕ) → k < c → f k ≡ a) → tabulate c f ≡ replicate c a
  tabulate-constant c f a h =
      ext_get_or a (tabulate c f) (replicate c a) (tabulate-length c f ∙ sym (length-replicate c a))
      (λ k l. let m : k < c = omega (arith, tabulate-length c f) in tabulate-at c f k a m ∙ h k m ∙ sym (get_or-replicate c k a a m))

  -- A list is the values at its places.
  pub tabulate-is : (l : List A) (c : ℕ) (f : ℕ → A) (d : A) → length l ≡ c → ((k : ℕ) → k < c → f k ≡ get_or l k d) → tabulate c f ≡ l
  tabulate-is l c f d e h =
      ext_get_or d (tabulate c f) l (tabulate-length c f ∙ sym e)
      (λ k m. let n : k < c = omega (arith, tabulate-length c f) in tabulate-at c f k d n ∙ h k n)

  -- A place of it, within the list or past its end.
  pub tabulate-or : (c : ℕ) (f : ℕ → A) (k : ℕ) (d : A) → get_or (tabulate c f) k d ≡ (if ltb k c then f k else d)
  tabulate-or c f k d = go (ltb k c) refl
    where
      go : (b : Bool) → ltb k c ≡ b → get_or (tabulate c f) k d ≡ (if b then f k else d)
      go true e = tabulate-at c f k d (ltb-true k c e)
      go false e = get_or-eq_default (tabulate c f) d (omega (arith, tabulate-length c f, ltb-false k c e))

  -- An array that a loop fills from its start: its first i places hold the values of f.
  pub record Filled (c : ℕ) (f : ℕ → A) (l : List A) (i : ℕ) : Type 0 where
    pub long : length l ≡ c
    pub first : take i l ≡ tabulate i f

  module _ (c : ℕ) (f : ℕ → A) (l : List A) where
    pub filled_none : length l ≡ c → Filled c f l 0
    unfolding tabulate
    filled_none e = record { long = e; first = refl }

    pub filled_more : (i : ℕ) (x : A) → Filled c f l i → i < c → x ≡ f i → Filled c f (set l i x) (i + 1)
    filled_more i x h m e = record {
      long = length-set l i x ∙ h.long;
      first = rw add-one (take-suc-set l i x (omega (arith, h.long)) ∙ ap₂ (λ (z : List A) (y : A). z ++ (y ∷ [])) h.first e ∙ sym (tabulate-more i f) ∙ rw add-one);
    }

    pub filled-all : (i : ℕ) → Filled c f l i → i ≡ c → l ≡ tabulate c f
    filled-all i h e = sym (take_all i l (omega (arith, h.long, e))) ∙ h.first ∙ ap (λ k. tabulate k f) e

-- The values, each changed.
pub map-tabulate : {A B : Type 0} (g : A → B) (c : ℕ) (f : ℕ → A) → map g (tabulate c f) ≡ tabulate c (λ k. g (f k))
unfolding tabulate
map-tabulate g zero f = refl
map-tabulate {A} {B} g (suc c) f = map-append g (tabulate c f) (f c ∷ []) ∙ ap (λ (z : List B). z ++ (g (f c) ∷ [])) (map-tabulate g c f)

-- A place of the changed values, within the list or past its end.
pub tabulate-part : {A B : Type 0} (g : A → B) (c : ℕ) (f : ℕ → A) (k : ℕ) (d : A) → get_or (tabulate c (λ j. g (f j))) k (g d) ≡ g (get_or (tabulate c f) k d)
tabulate-part g c f k d = ap (λ l. get_or l k (g d)) (sym (map-tabulate g c f)) ∙ get_or-map g (tabulate c f) k d

-- An array that a loop fills, each element read by g.
pub filled-map-more : {A B : Type 0} (g : B → A) (c : ℕ) (f : ℕ → A) (l : List B) (i : ℕ) (x : B) → Filled c f (map g l) i → i < c → g x ≡ f i
    → Filled c f (map g (set l i x)) (i + 1)
filled-map-more {A} g c f l i x h m e = subst (λ (z : List A). Filled c f z (i + 1)) (sym (map-set g l i x)) (filled_more c f (map g l) i (g x) h m e)

-- A list, each element changed, is the changed values at its places.
pub tabulate-map : {A B : Type 0} (f : A → B) (l : List A) (c : ℕ) (d : A) → length l ≡ c → tabulate c (λ k. f (get_or l k d)) ≡ map f l
tabulate-map f l c d e = tabulate-is (map f l) c (λ k. f (get_or l k d)) (f d) (length-map l f ∙ e) (λ k m. sym (get_or-map f l k d))

-- A loop that removes element k: at place i the elements after k have moved up as far as i.
module _ {A : Type 0} where
  pub removed-none : (k : ℕ) (l : List A) → removed k k l ≡ l
  unfolding removed
  removed-none k l =
      ap (λ (r : List A). take k l ++ r ++ drop k l) (slice_empty (suc k) l) ∙ ap (λ (r : List A). r ++ drop k l) (append-nil (take k l)) ∙ take-append-drop k l

  first-moved : (i : ℕ) (x d : A) (l : List A) → i < length l → set (take i l ++ drop i (x ∷ l)) i (get_or (take i l ++ drop i (x ∷ l)) (suc i) d) ≡ take (suc i) l ++ drop i l
  first-moved i x d [] h = absurd (omega arith)
  first-moved zero x d (y ∷ l) h = refl
  first-moved (suc i) x d (y ∷ l) h = ap (λ (r : List A). y ∷ r) (first-moved i y d l (omega arith))

  one-moved : (k i : ℕ) (d : A) (l : List A) → k ≤ i → suc i < length l → set (removed k i l) i (get_or (removed k i l) (suc i) d) ≡ removed k (suc i) l
  unfolding removed
  one-moved k i d [] h g = absurd (omega arith)
  one-moved zero i d (x ∷ l) h g = first-moved i x d l (omega arith)
  one-moved (suc k) zero d (x ∷ l) h g = absurd (omega arith)
  one-moved (suc k) (suc i) d (x ∷ l) h g = ap (λ (r : List A). x ∷ r) (one-moved k i d l (omega arith) (omega arith))

  pub removed-more : (k i : ℕ) (d : A) (l : List A) → k ≤ i → i + 1 < length l → set (removed k i l) i (get_or (removed k i l) (i + 1) d) ≡ removed k (i + 1) l
  removed-more k i d l h g = rw (add-one i) (one-moved k i d l h (omega arith))

  pub removed-length : (k last : ℕ) (l : List A) → k ≤ last → last < length l → length (removed k last l) ≡ length l
  unfolding removed
  removed-length k last [] h g = absurd (omega arith)
  removed-length zero last (x ∷ l) h g = length-append (take last l) (drop last (x ∷ l)) ∙ omega (arith, length-take-le last l (omega arith), length-drop last (x ∷ l))
  removed-length (suc k) zero (x ∷ l) h g = absurd (omega arith)
  removed-length (suc k) (suc last) (x ∷ l) h g = ap suc (removed-length k last l (omega arith) (omega arith))

  removed-first : (k last : ℕ) (l : List A) → k ≤ last → last < length l → take last (removed k last l) ≡ remove_at k (take (suc last) l)
  unfolding removed
  removed-first k last [] h g = absurd (omega arith)
  removed-first zero last (x ∷ l) h g = take_at (take last l) (drop last (x ∷ l)) last (length-take-le last l (omega arith))
  removed-first (suc k) zero (x ∷ l) h g = absurd (omega arith)
  removed-first (suc k) (suc last) (x ∷ l) h g = ap (λ (r : List A). x ∷ r) (removed-first k last l (omega arith) (omega arith))

-- Where element i of a list without element k stands in the whole list.
abbrev pub skipping : ℕ → ℕ → ℕ
skipping k i = if ltb i k then i else suc i

-- A list without element k.
module _ {A : Type 0} where
  pub remove_at-at : (k : ℕ) (l : List A) (i : ℕ) (d : A) → get_or (remove_at k l) i d ≡ get_or l (skipping k i) d
  remove_at-at zero [] i d = refl
  remove_at-at (suc k) [] i d = refl
  remove_at-at zero (x ∷ l) i d = rw (le-ltb i 0 (omega arith))
  remove_at-at (suc k) (x ∷ l) zero d = rw (lt-ltb 0 (suc k) (omega arith))
  remove_at-at (suc k) (x ∷ l) (suc i) d = remove_at-at k l i d ∙ go (ltb i k) refl
    where
      go : (b : Bool) → ltb i k ≡ b → get_or l (if b then i else suc i) d ≡ get_or (x ∷ l) (if ltb (suc i) (suc k) then suc i else suc (suc i)) d
      go true e = let h = ltb-true i k e in rw (lt-ltb (suc i) (suc k) (omega arith))
      go false e = let h = ltb-false i k e in rw (le-ltb (suc i) (suc k) (omega arith))

  pub length-remove_at : (k : ℕ) (l : List A) → k < length l → length (remove_at k l) ≡ length l - 1
  length-remove_at k l h = length-append (take k l) (drop (suc k) l) ∙ rw (length-take k l, length-drop (suc k) l) (omega arith)

  pub remove_at-first : (l : List A) → remove_at 0 l ≡ tail l
  remove_at-first [] = refl
  remove_at-first (x ∷ l) = refl

  -- The values at all places but k.
  pub tabulate-remove_at : (c k : ℕ) (f : ℕ → A) → k ≤ c → tabulate c (λ i. f (skipping k i)) ≡ remove_at k (tabulate (suc c) f)
  tabulate-remove_at c k f h =
      let long = tabulate-length (suc c) f in
      tabulate-is (remove_at k (tabulate (suc c) f)) c (λ i. f (skipping k i)) (f 0)
      (length-remove_at k (tabulate (suc c) f) (omega arith) ∙ omega arith)
      (λ i m. sym (remove_at-at k (tabulate (suc c) f) i (f 0) ∙ tabulate-at (suc c) f (skipping k i) (f 0)
      (choose (λ (x : ℕ). x < suc c) (ltb i k) (λ e. omega arith) (λ e. omega arith))))

-- So in an array whose elements after k moved up.
pub removed-at : {A : Type 0} (k last : ℕ) (l : List A) (d : A) → k ≤ last → last < length l → (i : ℕ) → i < last → get_or (removed k last l) i d ≡ get_or l (skipping k i) d
removed-at k last l d h g i m =
    sym (get_or-take last (removed k last l) i d m) ∙ ap (λ r. get_or r i d) (removed-first k last l h g) ∙ remove_at-at k (take (suc last) l) i d
    ∙ get_or-take (suc last) l (skipping k i) d (choose (λ (x : ℕ). x < suc last) (ltb i k) (λ e. omega arith) (λ e. omega arith))

-- Then the first `last` elements are the list without element k.
pub tabulate-removed : {A B : Type 0} (f : A → B) (k last : ℕ) (d : A) (l : List A) → k ≤ last → last < length l
    → tabulate last (λ i. f (get_or (removed k last l) i d)) ≡ remove_at k (tabulate (suc last) (λ i. f (get_or l i d)))
tabulate-removed f k last d l h g =
    tabulate-same last _ _ (λ i m. ap f (removed-at k last l d h g i m)) ∙ tabulate-remove_at last k (λ i. f (get_or l i d)) h

-- Tests of the values, and what is kept of them.
module _ {A : Type 0} (t : A → Bool) where
  all-last : (l : List A) (x : A) → all_in t (l ++ (x ∷ [])) ≡ all_in t l && t x
  unfolding all_in
  all-last [] x = and-true (t x)
  all-last (y ∷ l) x = ap (λ (b : Bool). t y && b) (all-last l x) ∙ sym (and_assoc (t y) (all_in t l) (t x))

  pub all-tabulate : (c : ℕ) (f : ℕ → A) → all_in t (tabulate c f) ≡ all_below c (λ k. t (f k))
  unfolding tabulate all_in all_below
  all-tabulate zero f = refl
  all-tabulate (suc c) f = all-last (tabulate c f) (f c) ∙ ap (λ (b : Bool). b && t (f c)) (all-tabulate c f)

  keep-last : (l : List A) (x : A) → keep t (l ++ (x ∷ [])) ≡ keep t l ++ (if t x then x ∷ [] else [])
  unfolding keep
  keep-last [] x = choose (λ (z : List A). z ≡ z) (t x) (λ e. refl) (λ e. refl)
  keep-last (y ∷ l) x = go (t y) (keep-last l x)
    where
      go : (b : Bool) → keep t (l ++ (x ∷ [])) ≡ keep t l ++ (if t x then x ∷ [] else [])
          → (if b then y ∷ keep t (l ++ (x ∷ [])) else keep t (l ++ (x ∷ []))) ≡ (if b then y ∷ keep t l else keep t l) ++ (if t x then x ∷ [] else [])
      go true e = ap (λ (z : List A). y ∷ z) e
      go false e = e

  pub keep-yes : (c : ℕ) (f : ℕ → A) → t (f c) ≡ true → keep t (tabulate (c + 1) f) ≡ keep t (tabulate c f) ++ (f c ∷ [])
  keep-yes c f e = ap (keep t) (tabulate-more c f) ∙ keep-last (tabulate c f) (f c) ∙ rw e refl

  pub keep-no : (c : ℕ) (f : ℕ → A) → t (f c) ≡ false → keep t (tabulate (c + 1) f) ≡ keep t (tabulate c f)
  keep-no c f e = ap (keep t) (tabulate-more c f) ∙ keep-last (tabulate c f) (f c) ∙ rw e (append-nil (keep t (tabulate c f)))

  -- The place of the first element that passes, from what is known of the places up to it.
  index_is : (l : List A) (k : ℕ) (d : A) → k < length l → ((i : ℕ) → i < k → t (get_or l i d) ≡ false) → t (get_or l k d) ≡ true → index_of t l ≡ k
  unfolding index_of
  index_is [] k d h none e = absurd (omega arith)
  index_is (x ∷ l) zero d h none e = rw e
  index_is (x ∷ l) (suc k) d h none e =
      rw (none 0 (omega arith)) (ap suc (index_is l k d (omega arith) (λ i m. none (suc i) (omega arith)) e))

  index-past : (l : List A) (d : A) → ((i : ℕ) → i < length l → t (get_or l i d) ≡ false) → index_of t l ≡ length l
  unfolding index_of
  index-past [] d none = refl
  index-past (x ∷ l) d none = rw (none 0 (omega arith)) (ap suc (index-past l d (λ i m. none (suc i) (omega arith))))

  -- Some element passes where the place is within the list, and none where it is past it.
  pub index-within : (l : List A) → index_of t l < length l → some_in t l ≡ true
  unfolding index_of some_in
  index-within [] h = absurd (omega arith)
  index-within (x ∷ l) h = go (t x) (λ k. index-within l k) h
    where
      go : (b : Bool) → (index_of t l < length l → some_in t l ≡ true) → (if b then 0 else suc (index_of t l)) < suc (length l) → b || some_in t l ≡ true
      go true ih h = refl
      go false ih h = ih (omega arith)

  pub index-outside : (l : List A) → length l ≤ index_of t l → some_in t l ≡ false
  unfolding index_of some_in
  index-outside [] h = refl
  index-outside (x ∷ l) h = go (t x) (λ k. index-outside l k) h
    where
      go : (b : Bool) → (length l ≤ index_of t l → some_in t l ≡ false) → suc (length l) ≤ (if b then 0 else suc (index_of t l)) → b || some_in t l ≡ false
      go true ih h = absurd (omega arith)
      go false ih h = ih (omega arith)

  pub index-some : (l : List A) → ltb (index_of t l) (length l) ≡ some_in t l
  index-some l = go (ltb (index_of t l) (length l)) refl
    where
      go : (b : Bool) → ltb (index_of t l) (length l) ≡ b → b ≡ some_in t l
      go true e = sym (index-within l (ltb-true _ _ e))
      go false e = sym (index-outside l (ltb-false _ _ e))

  -- A loop that looks for it: none of the k places before passes.
  module _ (c : ℕ) (f : ℕ → A) (k : ℕ) (none : all_below k (λ i. not (t (f i))) ≡ true) where
    failed : (i : ℕ) → i < k → k ≤ c → t (get_or (tabulate c f) i (f 0)) ≡ false
    failed i m h = ap t (tabulate-at c f i (f 0) (omega arith)) ∙ not-true (t (f i)) (all-below-at k (λ i. not (t (f i))) none i m)

    pub index-found : k < c → t (f k) ≡ true → index_of t (tabulate c f) ≡ k
    index-found h e =
        index_is (tabulate c f) k (f 0) (omega (arith, tabulate-length c f)) (λ i m. failed i m (omega arith)) (ap t (tabulate-at c f k (f 0) h) ∙ e)

    pub index-not-found : k ≡ c → index_of t (tabulate c f) ≡ c
    index-not-found e =
        index-past (tabulate c f) (f 0) (λ i m. failed i (omega (arith, tabulate-length c f)) (omega arith)) ∙ tabulate-length c f

-- A list of no values is empty, and no other.
pub tabulate-empty : {A : Type 0} (c : ℕ) (f : ℕ → A) → is_empty (tabulate c f) ≡ eqb c 0
tabulate-empty c f = empty-length (tabulate c f) ∙ ap (λ k. eqb k 0) (tabulate-length c f)

-- No number stands twice among the values where none stands among those before it.
module _ {A : Type 0} (number : A → ℕ) where
  pub some-map : (j : ℕ) (l : List A) → some_in (eqb j) (map number l) ≡ some_in (λ x. eqb j (number x)) l
  unfolding some_in
  some-map j [] = refl
  some-map j (x ∷ l) = ap (λ (b : Bool). eqb j (number x) || b) (some-map j l)

  pub distinct-tabulate : (c : ℕ) (f : ℕ → A)
      → distinct (map number (tabulate c f)) ≡ all_below c (λ k. not (some_in (λ x. eqb (number (f k)) (number x)) (tabulate k f)))
  unfolding tabulate all_below distinct
  distinct-tabulate zero f = refl
  distinct-tabulate (suc c) f =
      ap distinct (map-append number (tabulate c f) (f c ∷ []))
      ∙ distinct_more (map number (tabulate c f)) (number (f c))
      ∙ rw (distinct-tabulate c f, some-map (number (f c)) (tabulate c f))
