-- Sums over the numbers below n and over lists.
use Prim.Native.Nat.{ℕ, zero, suc, ◌+◌, ◌*◌, ◌≤◌, ◌<◌}
use mathlib.Core.Path.{◌≡◌, subst}
use mathlib.Core.Logic.{◌≢◌}
use mathlib.Core.List.Memᴰ
use mathlib.Core.List.{List, [], ◌∷◌, ◌++◌, Memᴰ}
use lib.ListN.{length}
use native.Mathlib.Omega.{arith}
use Rattle.base.proofs.Booleans.{cases, Trichotomy, less, equal, more, trichotomy}

unfoldable pub sum_below : ℕ → (ℕ → ℕ) → ℕ
sum_below zero f = 0
sum_below (suc n) f = sum_below n f + f n

unfoldable pub sum_in : {A : Type 0} → (A → ℕ) → List A → ℕ
sum_in f [] = 0
sum_in f (x ∷ l) = f x + sum_in f l

-- Terms that are at most others have a sum that is at most theirs.
pub sum-le : (n : ℕ) (f g : ℕ → ℕ) → ((j : ℕ) → j < n → f j ≤ g j) → sum_below n f ≤ sum_below n g
unfolding sum_below
sum-le zero f g h = omega arith
sum-le (suc n) f g h = omega (arith, sum-le n f g (λ j l. h j (omega arith)), h n (omega arith))

-- So where one term with a more is at most the other with b more.
pub sum_one : (n : ℕ) (f g : ℕ → ℕ) (i a b : ℕ) → i < n → ((j : ℕ) → j < n → j ≢ i → f j ≤ g j) → f i + a ≤ g i + b
    → sum_below n f + a ≤ sum_below n g + b
unfolding sum_below
sum_one zero f g i a b hi h k = absurd (omega arith)
sum_one (suc n) f g i a b hi h k = go (trichotomy i n) (λ l. sum_one n f g i a b l (λ j hj q. h j (omega arith) q) k)
  where
    go : Trichotomy i n → (i < n → sum_below n f + a ≤ sum_below n g + b) → sum_below n f + f n + a ≤ sum_below n g + g n + b
    go (less l) ih = omega (arith, ih l, h n (omega arith) (λ e. omega arith))
    go (equal e) ih = let last : f n + a ≤ g n + b = subst (λ z. f z + a ≤ g z + b) e k in
        omega (arith, sum-le n f g (λ j l. h j (omega arith) (λ q. omega arith)))
    go (more l) ih = absurd (omega arith)

pub sum-most : (n c : ℕ) (f : ℕ → ℕ) → ((j : ℕ) → j < n → f j ≤ c) → sum_below n f ≤ n * c
unfolding sum_below
sum-most zero c f h = omega arith
sum-most (suc n) c f h = omega (arith, sum-most n c f (λ j l. h j (omega arith)), h n (omega arith))

-- So where one term is 0.
pub sum-most-but : (n c : ℕ) (f : ℕ → ℕ) (i : ℕ) → i < n → ((j : ℕ) → j < n → f j ≤ c) → f i ≡ 0 → sum_below n f + c ≤ n * c
sum-most-but n c f i hi h e =
    let k : sum_below n f + c ≤ sum_below n (λ j. c) + 0 = sum_one n f (λ j. c) i c 0 hi (λ j hj q. h j hj) (omega arith) in
    omega (arith, sum-most n c (λ j. c) (λ j hj. omega arith))

module _ {A : Type 0} where
  pub in-append : (f : A → ℕ) (l m : List A) → sum_in f (l ++ m) ≡ sum_in f l + sum_in f m
  unfolding sum_in
  in-append f [] m = omega arith
  in-append f (x ∷ l) m = omega (arith, in-append f l m)

  pub in-le : (f g : A → ℕ) (l : List A) → ((x : A) → f x ≤ g x) → sum_in f l ≤ sum_in g l
  unfolding sum_in
  in-le f g [] h = omega arith
  in-le f g (x ∷ l) h = omega (arith, h x, in-le f g l h)

  pub in_one : (f g : A → ℕ) (l : List A) (x : A) (a : ℕ) → Memᴰ x l → ((y : A) → f y ≤ g y) → f x + a ≤ g x → sum_in f l + a ≤ sum_in g l
  unfolding sum_in
  in_one f g [] x a m h k = absurd (Memᴰ.not-nil m)
  in_one f g (y ∷ l) x a m h k =
      cases (Memᴰ.cases_cons m)
      (λ e. let z : f y + a ≤ g y = subst (λ u. f u + a ≤ g u) e k in omega (arith, in-le f g l h))
      (λ j. omega (arith, h y, in_one f g l x a j h k))

  pub in-most : (f : A → ℕ) (c : ℕ) (l : List A) → ((x : A) → f x ≤ c) → sum_in f l ≤ c * length l
  unfolding sum_in
  in-most f c [] h = omega arith
  in-most f c (x ∷ l) h = omega (arith, h x, in-most f c l h)

  pub in-least : (f : A → ℕ) (l : List A) → ((x : A) → 1 ≤ f x) → length l ≤ sum_in f l
  unfolding sum_in
  in-least f [] h = omega arith
  in-least f (x ∷ l) h = omega (arith, h x, in-least f l h)
