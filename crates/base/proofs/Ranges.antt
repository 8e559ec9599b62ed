-- A test of each number of a range.
use Prim.Native.Nat.{ℕ, zero, suc, ◌+◌}
use mathlib.Core.Path.{◌≡◌, refl, ap, ap₂, ◌∙◌}
use mathlib.Core.Bool.{Bool, ◌&&◌, and-true}
use mathlib.Core.List.{List, [], ◌∷◌, ◌++◌}
use native.Mathlib.Nat.{add-zero, zero-add}
use native.Mathlib.Omega.{arith}
use Rattle.std.specs.List.{list_all, range_with_len}
use Rattle.std.proofs.lemmas.List.Folds.{list_all-append}
use Rattle.base.specs.Lists.{all_below}

range-more : (a n : ℕ) → range_with_len a (suc n) ≡ range_with_len a n ++ ((a + n) ∷ [])
range-more a zero = rw add-zero
range-more a (suc n) =
    let next : a + 1 + n ≡ a + suc n = omega arith in
    ap (λ (l : List ℕ). a ∷ l) (rw next at (range-more (a + 1) n))

pub all-range : (n : ℕ) (f : ℕ → Bool) → list_all f (range_with_len 0 n) ≡ all_below n f
unfolding all_below
all-range zero f = refl
all-range (suc n) f =
    let last : list_all f ((0 + n) ∷ []) ≡ f n = rw (zero-add, and-true) in
    ap (list_all f) (range-more 0 n) ∙ list_all-append f (range_with_len 0 n) ((0 + n) ∷ []) ∙ ap₂ ◌&&◌ (all-range n f) last
