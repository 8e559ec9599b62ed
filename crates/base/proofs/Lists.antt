-- Laws of tests over numbers and lists.
use Prim.Native.Nat.{ℕ, zero, suc, ◌*◌, ◌≤◌, ◌<◌}
use mathlib.Core.Path.{◌≡◌, refl, sym, ap, subst, ◌∙◌}
use mathlib.Core.Logic.{◌≢◌}
use mathlib.Core.Bool.{Bool, true, false, not, ◌&&◌, ◌||◌, or-true, or-false, or_assoc, false≢true}
use mathlib.Core.List.Memᴰ
use mathlib.Core.List.{List, [], ◌∷◌, ◌++◌, map, tail, flat_map, append_assoc, append-nil, Memᴰ}
use lib.ListN.{length, get_or, set, take, drop, replicate, length-append, length-map}
use native.Mathlib.Nat.{mul-suc}
use lib.Dec.{eqb}
use native.Mathlib.Omega.{arith}
use borrow.Author.Tests.{eqb-true, eqb-false, eq-eqb, ne_eqb, not-true}
use Rattle.std.specs.Prelude.{if◌then◌else◌}
use Rattle.base.specs.Lists.{all_below, some_below, below, all_in, some_in, keep, is_empty, distinct}
use Rattle.base.proofs.Booleans.{clash, both, neither, passes, negates, iff, choose, cases, Trichotomy, less, equal, more, trichotomy}

-- Every number below n passes.
pub all-below : (n : ℕ) (f : ℕ → Bool) → ((i : ℕ) → i < n → f i ≡ true) → all_below n f ≡ true
unfolding all_below
all-below zero f h = refl
all-below (suc n) f h = passes (all-below n f (λ i l. h i (omega arith))) (h n (omega arith))

pub all-below-at : (n : ℕ) (f : ℕ → Bool) → all_below n f ≡ true → (i : ℕ) → i < n → f i ≡ true
unfolding all_below
all-below-at zero f e i h = absurd (omega arith)
all-below-at (suc n) f e i h = go (trichotomy i n) (λ l. all-below-at n f (both (all_below n f) (f n) e).0 i l)
  where
    go : Trichotomy i n → (i < n → f i ≡ true) → f i ≡ true
    go (less l) ih = ih l
    go (equal q) ih = ap f q ∙ (both (all_below n f) (f n) e).1
    go (more l) ih = absurd (omega arith)

-- Where no number but a and b passes, some number below n does if one of the two does.
some_at : (n : ℕ) (f : ℕ → Bool) (i : ℕ) → i < n → f i ≡ true → some_below n f ≡ true
unfolding some_below
some_at zero f i h e = absurd (omega arith)
some_at (suc n) f i h e = go (trichotomy i n) (λ l. some_at n f i l e)
  where
    go : Trichotomy i n → (i < n → some_below n f ≡ true) → some_below n f || f n ≡ true
    go (less l) ih = rw (ih l)
    go (equal q) ih = rw (sym (ap f q) ∙ e, or-true (some_below n f))
    go (more l) ih = absurd (omega arith)

some-which : (n : ℕ) (f : ℕ → Bool) → some_below n f ≡ true → (i : ℕ) × (i < n) × (f i ≡ true)
unfolding some_below
some-which zero f h = absurd (false≢true h)
some-which (suc n) f h = go (some_below n f) refl (some-which n f)
  where
    go : (t : Bool) → some_below n f ≡ t → (some_below n f ≡ true → (i : ℕ) × (i < n) × (f i ≡ true)) → (i : ℕ) × (i < suc n) × (f i ≡ true)
    go true q ih = let (i, k, e) = ih q in (i, omega arith, e)
    go false q ih = (n, omega arith, rw q at h)

pub some-of-two : (n : ℕ) (f : ℕ → Bool) (a b : ℕ) → a < n → b < n → ((i : ℕ) → i < n → i ≢ a → i ≢ b → f i ≡ false) → some_below n f ≡ f a || f b
some-of-two n f a b ha hb none = iff (some_below n f) (f a || f b) which (λ h. one (f a) refl h)
  where
    which : some_below n f ≡ true → f a || f b ≡ true
    which h = let (i, k, e) = some-which n f h in here i k e (eqb i a) refl (eqb i b) refl
      where
        here : (i : ℕ) → i < n → f i ≡ true → (t : Bool) → eqb i a ≡ t → (u : Bool) → eqb i b ≡ u → f a || f b ≡ true
        here i k e true q u r = rw (ap f (sym (eqb-true i a q)), e)
        here i k e false q true r = rw (ap f (sym (eqb-true i b r)), e, or-true (f a))
        here i k e false q false r = clash e (none i k (eqb-false i a q) (eqb-false i b r))

    one : (t : Bool) → f a ≡ t → f a || f b ≡ true → some_below n f ≡ true
    one true q h = some_at n f a ha q
    one false q h = some_at n f b hb (rw q at h)

-- The numbers below n that pass are below n and pass.
pub below-mem : (n : ℕ) (f : ℕ → Bool) {x : ℕ} → Memᴰ x (below n f) → (x < n) × (f x ≡ true)
unfolding below
below-mem zero f m = absurd (Memᴰ.not-nil m)
below-mem (suc n) f {x} m = cases (Memᴰ.append_cases (below n f) m) (λ k. let h = below-mem n f k in (omega (arith, h.0), h.1)) (λ k. last (f n) refl k)
  where
    last : (t : Bool) → f n ≡ t → Memᴰ x (if t then n ∷ [] else []) → (x < suc n) × (f x ≡ true)
    last true e k = let p : x ≡ n = Memᴰ.eq_of_singleton k in (omega arith, ap f p ∙ e)
    last false e k = absurd (Memᴰ.not-nil k)

-- Elements by their places.
module _ {A : Type 0} where
  pub mem-at : (l : List A) (k : ℕ) (d : A) → k < length l → Memᴰ (get_or l k d) l
  mem-at [] k d h = absurd (omega arith)
  mem-at (x ∷ l) zero d h = Memᴰ.head refl
  mem-at (x ∷ l) (suc k) d h = Memᴰ.tail (mem-at l k d (omega arith))

  pub mem-take : (k : ℕ) (l : List A) {x : A} → Memᴰ x (take k l) → Memᴰ x l
  mem-take zero l m = absurd (Memᴰ.not-nil m)
  mem-take (suc k) [] m = m
  mem-take (suc k) (y ∷ l) {x} m = cases (Memᴰ.cases_cons m) (λ p. Memᴰ.head p) (λ j. Memᴰ.tail (mem-take k l j))

  pub mem-drop : (k : ℕ) (l : List A) {x : A} → Memᴰ x (drop k l) → Memᴰ x l
  mem-drop zero l m = m
  mem-drop (suc k) [] m = m
  mem-drop (suc k) (y ∷ l) m = Memᴰ.tail (mem-drop k l m)

  -- A place after a write holds the value written, if it is the place, or what it held.
  pub set-either : (P : A → Type 0) (l : List A) (k q : ℕ) (x d : A) → (q ≡ k → P x) → P (get_or l q d) → P (get_or (set l k x) q d)
  set-either P [] k q x d new old = old
  set-either P (y ∷ l) zero zero x d new old = new refl
  set-either P (y ∷ l) zero (suc q) x d new old = old
  set-either P (y ∷ l) (suc k) zero x d new old = old
  set-either P (y ∷ l) (suc k) (suc q) x d new old = set-either P l k q x d (λ e. new (ap suc e)) old

  pub mem-tail : (l : List A) {x : A} → Memᴰ x (tail l) → Memᴰ x l
  mem-tail [] m = m
  mem-tail (y ∷ l) m = Memᴰ.tail m

  pub length-tail : (l : List A) (k : ℕ) → length l ≤ suc k → length (tail l) ≤ k
  length-tail [] k h = omega arith
  length-tail (y ∷ l) k h = omega arith

  pub empty-nil : (l : List A) → is_empty l ≡ true → l ≡ []
  unfolding is_empty
  empty-nil [] e = refl
  empty-nil (x ∷ l) e = clash e refl

  pub filled-not-nil : (l : List A) → is_empty l ≡ false → l ≢ []
  unfolding is_empty
  filled-not-nil l e q = clash (ap is_empty q) e

  -- An empty list has no element.
  pub empty-length : (l : List A) → is_empty l ≡ eqb (length l) 0
  unfolding is_empty
  empty-length [] = refl
  empty-length (x ∷ l) = sym (ne_eqb (suc (length l)) 0 (λ e. omega arith))

-- The length of a list from that of its image: what is known of an array of structs is the length of its image.
pub unmapped : {A B : Type 0} (f : A → B) (l : List A) (n : ℕ) → length (map f l) ≡ n → length l ≡ n
unmapped f l n e = sym (length-map l f) ∙ e

-- Every element changed: of a list with one element written, and of a list of one value.
pub map-set : {A B : Type 0} (f : A → B) (l : List A) (k : ℕ) (x : A) → map f (set l k x) ≡ set (map f l) k (f x)
map-set f [] k x = refl
map-set f (y ∷ l) zero x = refl
map-set f (y ∷ l) (suc k) x = ap (λ z. f y ∷ z) (map-set f l k x)

pub map-replicate : {A B : Type 0} (f : A → B) (c : ℕ) (x : A) → map f (replicate c x) ≡ replicate c (f x)
map-replicate f zero x = refl
map-replicate f (suc c) x = ap (λ z. f x ∷ z) (map-replicate f c x)

-- A list for each element, one after the other.
module _ {A B : Type 0} (f : A → List B) where
  pub flat_append : (xs ys : List A) → flat_map f (xs ++ ys) ≡ flat_map f xs ++ flat_map f ys
  unfolding flat_map
  flat_append [] ys = refl
  flat_append (x ∷ xs) ys = rw (flat_append xs ys) (sym (append_assoc (f x) (flat_map f xs) (flat_map f ys)))

  pub flat-one : (xs : List A) (x : A) → flat_map f (xs ++ (x ∷ [])) ≡ flat_map f xs ++ f x
  unfolding flat_map
  flat-one xs x = flat_append xs (x ∷ []) ∙ rw (append-nil (f x))

  -- Where all are of one length.
  pub flat-length : (width : ℕ) (l : List A) → ((x : A) → length (f x) ≡ width) → length (flat_map f l) ≡ width * length l
  unfolding flat_map
  flat-length width [] wide = omega arith
  flat-length width (x ∷ l) wide = omega (arith, length-append (f x) (flat_map f l), wide x, flat-length width l wide, mul-suc width (length l))

module _ {A : Type 0} (f : A → Bool) where
  -- Every element passes.
  pub all_in-each : (l : List A) → ((x : A) → Memᴰ x l → f x ≡ true) → all_in f l ≡ true
  unfolding all_in
  all_in-each [] h = refl
  all_in-each (x ∷ l) h = passes (h x (Memᴰ.head refl)) (all_in-each l (λ y m. h y (Memᴰ.tail m)))

  pub all-in-at : (l : List A) → all_in f l ≡ true → (x : A) → Memᴰ x l → f x ≡ true
  unfolding all_in
  all-in-at [] e x m = absurd (Memᴰ.not-nil m)
  all-in-at (y ∷ l) e x m = cases (Memᴰ.cases_cons m) (λ p. ap f p ∙ (both (f y) (all_in f l) e).0) (λ k. all-in-at l (both (f y) (all_in f l) e).1 x k)

  -- Where none passes, no element does, and the other way round.
  pub none_in : (l : List A) → ((x : A) → Memᴰ x l → f x ≡ false) → some_in f l ≡ false
  unfolding some_in
  none_in [] h = refl
  none_in (x ∷ l) h = simp (h x (Memᴰ.head refl), none_in l (λ y m. h y (Memᴰ.tail m)))

  pub none-in-at : (l : List A) → some_in f l ≡ false → (x : A) → Memᴰ x l → f x ≡ false
  unfolding some_in
  none-in-at [] e x m = absurd (Memᴰ.not-nil m)
  none-in-at (y ∷ l) e x m = cases (Memᴰ.cases_cons m) (λ p. ap f p ∙ (neither (f y) (some_in f l) e).0) (λ k. none-in-at l (neither (f y) (some_in f l) e).1 x k)

  -- What is kept stood in the list and passes.
  pub keep-mem : (l : List A) {x : A} → Memᴰ x (keep f l) → Memᴰ x l × (f x ≡ true)
  unfolding keep
  keep-mem [] m = absurd (Memᴰ.not-nil m)
  keep-mem (y ∷ l) {x} m = choose (λ z. Memᴰ x z → Memᴰ x (y ∷ l) × (f x ≡ true)) (f y)
      (λ e k. cases (Memᴰ.cases_cons k) (λ p. (Memᴰ.head p, ap f p ∙ e)) (λ j. later (keep-mem l j)))
      (λ e k. later (keep-mem l k)) m
    where
      later : Memᴰ x l × (f x ≡ true) → Memᴰ x (y ∷ l) × (f x ≡ true)
      later h = (Memᴰ.tail h.0, h.1)

  pub keep-length : (l : List A) → length (keep f l) ≤ length l
  unfolding keep
  keep-length [] = omega arith
  keep-length (y ∷ l) =
      let h = keep-length l in
      choose (λ (z : List A). length z ≤ suc (length l)) (f y) (λ e. omega arith) (λ e. omega arith)

-- Whether some element passes, of a list with one more.
some_more : {A : Type 0} (t : A → Bool) (l : List A) (x : A) → some_in t (l ++ (x ∷ [])) ≡ some_in t l || t x
unfolding some_in
some_more t [] x = or-false (t x)
some_more t (y ∷ l) x = ap (λ (b : Bool). t y || b) (some_more t l x) ∙ sym (or_assoc (t y) (some_in t l) (t x))

eqb-sym : (a b : ℕ) → eqb a b ≡ eqb b a
eqb-sym a b = iff _ _ (λ e. eq-eqb b a (sym (eqb-true a b e))) (λ e. eq-eqb a b (sym (eqb-true b a e)))

-- Where none leaves, all stay.
pub all-kept : {A : Type 0} (f : A → Bool) (l : List A) → some_in f l ≡ false → keep (λ x. not (f x)) l ≡ l
unfolding some_in keep
all-kept f [] h = refl
all-kept f (x ∷ l) h = let w = neither (f x) (some_in f l) h in rw (w.0, all-kept f l w.1)

-- A list in which no number stands twice, as the absence of its first from the rest.
pub distinct_cons : (x : ℕ) (l : List ℕ) → (Memᴰ x l → ⊥) → distinct l ≡ true → distinct (x ∷ l) ≡ true
unfolding distinct
distinct_cons x l h d = passes (negates (none_in (eqb x) l (λ y m. ne_eqb x y (λ e. h (subst (λ z. Memᴰ z l) (sym e) m))))) d

pub distinct-first : (x : ℕ) (l : List ℕ) → distinct (x ∷ l) ≡ true → Memᴰ x l → ⊥
unfolding distinct
distinct-first x l d m = eqb-false x x (none-in-at (eqb x) l (not-true (some_in (eqb x) l) (both (not (some_in (eqb x) l)) (distinct l) d).0) x m) refl

pub distinct-rest : (x : ℕ) (l : List ℕ) → distinct (x ∷ l) ≡ true → distinct l ≡ true
unfolding distinct
distinct-rest x l d = (both (not (some_in (eqb x) l)) (distinct l) d).1

pub distinct_tail : (l : List ℕ) → distinct l ≡ true → distinct (tail l) ≡ true
distinct_tail [] d = d
distinct_tail (x ∷ l) d = distinct-rest x l d

-- The same as the absence of its last from the rest.
pub distinct_more : (l : List ℕ) (x : ℕ) → distinct (l ++ (x ∷ [])) ≡ distinct l && not (some_in (eqb x) l)
unfolding distinct some_in
distinct_more [] x = refl
distinct_more (y ∷ l) x =
    rw (distinct_more l x, some_more (eqb y) l x, eqb-sym y x) (shuffle (some_in (eqb y) l) (eqb x y) (distinct l) (some_in (eqb x) l))
  where
    shuffle : (a b c d : Bool) → not (a || b) && (c && not d) ≡ (not a && c) && not (b || d)
    shuffle true b c d = refl
    shuffle false true true d = refl
    shuffle false true false d = refl
    shuffle false false c d = refl

pub distinct-last : (l : List ℕ) (x : ℕ) → (Memᴰ x l → ⊥) → distinct l ≡ true → distinct (l ++ (x ∷ [])) ≡ true
distinct-last l x h d =
    distinct_more l x ∙ passes d (negates (none_in (eqb x) l (λ y m. ne_eqb x y (λ e. h (subst (λ z. Memᴰ z l) (sym e) m)))))

-- At most n numbers stand below n, if none stands twice.
module _ (n : ℕ) where
  others : List ℕ → List ℕ
  others l = keep (λ x. not (eqb x n)) l

  others-mem : (l : List ℕ) {x : ℕ} → Memᴰ x (others l) → Memᴰ x l × (x ≢ n)
  unfolding others
  others-mem l m = let h = keep-mem (λ x. not (eqb x n)) l m in (h.0, eqb-false _ n (not-true _ h.1))

  others-distinct : (l : List ℕ) → distinct l ≡ true → distinct (others l) ≡ true
  unfolding others keep
  others-distinct [] d = d
  others-distinct (x ∷ l) d = let h = others-distinct l (distinct-rest x l d) in
      choose (λ z. distinct z ≡ true) (not (eqb x n)) (λ e. distinct_cons x (others l) (λ m. distinct-first x l d (others-mem l m).0) h) (λ e. h)

  others-all : (l : List ℕ) → (Memᴰ n l → ⊥) → length l ≤ length (others l)
  unfolding others keep
  others-all [] h = omega arith
  others-all (x ∷ l) h = rw (ne_eqb x n (λ e. h (Memᴰ.head (sym e)))) (omega (arith, others-all l (λ m. h (Memᴰ.tail m))))

  others-length : (l : List ℕ) → distinct l ≡ true → length l ≤ suc (length (others l))
  unfolding others keep
  others-length [] d = omega arith
  others-length (x ∷ l) d = go (eqb x n) refl (others-length l (distinct-rest x l d))
    where
      go : (t : Bool) → eqb x n ≡ t → length l ≤ suc (length (others l)) → suc (length l) ≤ suc (length (if not t then x ∷ others l else others l))
      go true e h = omega (arith, others-all l (λ m. distinct-first x l d (subst (λ z. Memᴰ z l) (sym (eqb-true x n e)) m)))
      go false e h = omega arith

pub pigeonhole : (n : ℕ) (l : List ℕ) → distinct l ≡ true → ((x : ℕ) → Memᴰ x l → x < n) → length l ≤ n
unfolding others
pigeonhole zero [] d h = omega arith
pigeonhole zero (x ∷ l) d h = let k = h x (Memᴰ.head refl) in absurd (omega arith)
pigeonhole (suc n) l d h =
    let k = pigeonhole n (others n l) (others-distinct n l d) (λ x m. less-than x (others-mem n l m)) in
    omega (arith, others-length n l d)
  where
    less-than : (x : ℕ) → Memᴰ x l × (x ≢ n) → x < n
    less-than x p = let k = h x p.0 in let q : x ≢ n = p.1 in omega arith
