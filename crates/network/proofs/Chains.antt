-- Chains over the numbers of a range, or over the first elements of a list: what a filter leaves, and tests that agree.
use Prim.Native.Nat.{ℕ, zero, suc, ◌+◌, ◌≤◌, ◌<◌}
use mathlib.Core.Path.{◌≡◌, refl, sym, ap, ap₂, ◌∙◌}
use mathlib.Core.Bool.{Bool, true, false, cond, ◌&&◌}
use mathlib.Core.List.{List, [], ◌∷◌, map}
use lib.ListN.{length, get_or, take, length-append}
use lib.Seq.{get_or-take, length-take-le}
use native.Mathlib.Omega.{arith}
use mir.Val.{bool_byte}
use Rattle.std.specs.Prelude.{if◌then◌else◌}
use Rattle.std.specs.List.{filter}
use Rattle.base.specs.Lists.{all_below, below, keep, tabulate}
use Rattle.base.proofs.Loops.{tabulate-same, tabulate-map}

-- One number more counts where it passes.
pub below-counted : (n : ℕ) (f : ℕ → Bool) → length (below (suc n) f) ≡ length (below n f) + bool_byte (f n)
unfolding below
below-counted n f = length-append (below n f) (if f n then n ∷ [] else []) ∙ ap (λ k. length (below n f) + k) (one (f n))
  where
    one : (b : Bool) → length (if b then n ∷ [] else []) ≡ bool_byte b
    one true = refl
    one false = refl

pub all-same : (n : ℕ) (f g : ℕ → Bool) → ((k : ℕ) → k < n → f k ≡ g k) → all_below n f ≡ all_below n g
unfolding all_below
all-same zero f g h = refl
all-same (suc n) f g h = ap₂ ◌&&◌ (all-same n f g (λ k l. h k (omega arith))) (h n (omega arith))

-- As many elements pass as are kept of what they are read as.
module _ {A B : Type 0} (test : B → Bool) (g : A → B) where
  kept-length : (l : List A) → length (filter (λ x. test (g x)) l) ≡ length (keep test (map g l))
  unfolding keep
  kept-length [] = refl
  kept-length (x ∷ l) = go (test (g x)) (kept-length l)
    where
      go : (b : Bool) → length (filter (λ y. test (g y)) l) ≡ length (keep test (map g l))
          → length (cond b (x ∷ filter (λ y. test (g y)) l) (filter (λ y. test (g y)) l)) ≡ length (if b then g x ∷ keep test (map g l) else keep test (map g l))
      go true h = ap suc h
      go false h = h

  pub count-taken : (d : A) (n : ℕ) (l : List A) → n ≤ length l
      → length (filter (λ x. test (g x)) (take n l)) ≡ length (keep test (tabulate n (λ k. g (get_or l k d))))
  count-taken d n l h =
      kept-length (take n l)
      ∙ ap (λ z. length (keep test z))
      (sym (tabulate-map g (take n l) n d (length-take-le n l h)) ∙ tabulate-same n _ _ (λ k m. ap g (get_or-take n l k d m)))
