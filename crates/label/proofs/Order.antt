-- The order of labels: above is irreflexive, asymmetric and transitive, and "at least" composes with it and with itself.
use Prim.Native.Nat.{ℕ, ◌*◌, ◌<◌, ◌≤◌}
use mathlib.Core.Path.{◌≡◌, refl, sym, ◌∙◌}
use mathlib.Core.Bool.{true, false}
use native.Mathlib.Nat.{le_of_lt, mul-le-mul_right, mul-lt-mul_of_pos_right, le_of_mul-le-mul_right, lt_of_mul-lt-mul_left, lt_of_mul-lt-mul_right}
use native.Mathlib.Omega.{arith}
use borrow.Author.Tests.{lt-ltb, le-ltb, eq-eqb, ne_eqb, ltb-true, ltb-false}
use Rattle.base.proofs.Booleans.{clash, Trichotomy, less, equal, more, trichotomy}
use Rattle.label.specs.declared.Label.{Label}
use Rattle.label.specs.Label.{in_range, smaller_fraction, above, ◌≻◌, ◌⪰◌}
use Rattle.label.proofs.Range.{range-denominator}

-- Above, by cases on the sequence numbers.
pub above_lower : (x y : Label) → x.s.0 < y.s.0 → above x y ≡ true
unfolding above
above_lower x y h = simp (lt-ltb _ _ h)

pub above-higher : (x y : Label) → y.s.0 < x.s.0 → above x y ≡ false
unfolding above
above-higher x y h = simp (le-ltb x.s.0 y.s.0 (le_of_lt h), ne_eqb x.s.0 y.s.0 (λ e. omega arith))

pub above_same : (x y : Label) → x.s.0 ≡ y.s.0 → above x y ≡ smaller_fraction y x
unfolding above
above_same x y e = simp (le-ltb x.s.0 y.s.0 (omega arith), eq-eqb _ _ e)

-- How two labels are ordered: x's s is smaller, or both s are equal and R holds of the fractions' whole products.
pub data Ordered (R : ℕ → ℕ → Type 0) (x y : Label) : Type 0 where
  by_number : x.s.0 < y.s.0 → Ordered R x y
  by_fraction : x.s.0 ≡ y.s.0 → R (y.m * x.d) (x.m * y.d) → Ordered R x y

-- Above is to be ordered by <, and at least is to be ordered by ≤.
module _ (x y : Label) where
  pub ≻-ordered : x ≻ y → Ordered ◌<◌ x y
  ≻-ordered h = go (trichotomy x.s.0 y.s.0)
    where
      go : Trichotomy x.s.0 y.s.0 → Ordered ◌<◌ x y
      go (less l) = by_number l
      go (equal e) = by_fraction e (ltb-true _ _ (sym (above_same x y e) ∙ h))
      go (more l) = clash h (above-higher x y l)

  pub ⪰-ordered : x ⪰ y → Ordered ◌≤◌ x y
  ⪰-ordered h = go (trichotomy x.s.0 y.s.0)
    where
      go : Trichotomy x.s.0 y.s.0 → Ordered ◌≤◌ x y
      go (less l) = by_number l
      go (equal e) = by_fraction e (ltb-false _ _ (sym (above_same y x (sym e)) ∙ h))
      go (more l) = clash (above_lower y x l) h

  pub ordered-≻ : Ordered ◌<◌ x y → x ≻ y
  ordered-≻ (by_number l) = above_lower x y l
  ordered-≻ (by_fraction e h) = above_same x y e ∙ lt-ltb _ _ h

  pub ordered-⪰ : Ordered ◌≤◌ x y → x ⪰ y
  ordered-⪰ (by_number l) = above-higher y x l
  ordered-⪰ (by_fraction e h) = above_same y x (sym e) ∙ le-ltb _ _ h

-- Ordered either way: the sequence number is at most the other's.
ordered-number : {R : ℕ → ℕ → Type 0} (x y : Label) → Ordered R x y → x.s.0 ≤ y.s.0
ordered-number x y (by_number l) = le_of_lt l
ordered-number x y (by_fraction e _) = omega arith

pub ≻-number : (x y : Label) → x ≻ y → x.s.0 ≤ y.s.0
≻-number x y h = ordered-number x y (≻-ordered x y h)

pub ⪰-number : (x y : Label) → x ⪰ y → x.s.0 ≤ y.s.0
⪰-number x y h = ordered-number x y (⪰-ordered x y h)

-- No label is above itself, and of two labels at most one is above the other.
pub ≻-irreflexive : (x : Label) → x ⪰ x
≻-irreflexive x = ordered-⪰ x x (by_fraction refl (omega arith))

pub ≻-asymmetric : (x y : Label) → x ≻ y → x ⪰ y
≻-asymmetric x y h = ordered-⪰ x y (go (≻-ordered x y h))
  where
    go : Ordered ◌<◌ x y → Ordered ◌≤◌ x y
    go (by_number l) = by_number l
    go (by_fraction e p) = by_fraction e (le_of_lt p)

module _ (x y z : Label) where
  -- Two steps make one, where their fractions do.
  compose : {R S T : ℕ → ℕ → Type 0} → (R (y.m * x.d) (x.m * y.d) → S (z.m * y.d) (y.m * z.d) → T (z.m * x.d) (x.m * z.d)) → Ordered R x y → Ordered S y z → Ordered T x z
  compose f (by_number l) (by_number n) = by_number (omega arith)
  compose f (by_number l) (by_fraction e q) = by_number (omega arith)
  compose f (by_fraction e p) (by_number n) = by_number (omega arith)
  compose f (by_fraction e p) (by_fraction e' q) = by_fraction (e ∙ e') (f p q)

  -- Above is transitive, for all labels.
  pub ≻-transitive : x ≻ y → y ≻ z → x ≻ z
  ≻-transitive h k = ordered-≻ x z (compose fractions (≻-ordered x y h) (≻-ordered y z k))
    where
      fractions : y.m * x.d < x.m * y.d → z.m * y.d < y.m * z.d → z.m * x.d < x.m * z.d
      fractions p q =
          let positive : 0 < z.d = lt_of_mul-lt-mul_left y.m (omega arith) in
          lt_of_mul-lt-mul_right y.d
          (omega (arith, mul-lt-mul_of_pos_right p positive, mul-le-mul_right x.d (le_of_lt q)))

  -- At least is transitive, where the middle label is in range.
  pub ⪰-transitive : in_range y ≡ true → x ⪰ y → y ⪰ z → x ⪰ z
  ⪰-transitive r h k = ordered-⪰ x z (compose fractions (⪰-ordered x y h) (⪰-ordered y z k))
    where
      fractions : y.m * x.d ≤ x.m * y.d → z.m * y.d ≤ y.m * z.d → z.m * x.d ≤ x.m * z.d
      fractions p q =
          le_of_mul-le-mul_right {k = y.d}
          (omega (arith, mul-le-mul_right z.d p, mul-le-mul_right x.d q))
          (range-denominator y r)

  -- Above and then at least is above, where the last label is in range.
  pub ≻-⪰-transitive : in_range z ≡ true → x ≻ y → y ⪰ z → x ≻ z
  ≻-⪰-transitive r h k = ordered-≻ x z (compose fractions (≻-ordered x y h) (⪰-ordered y z k))
    where
      fractions : y.m * x.d < x.m * y.d → z.m * y.d ≤ y.m * z.d → z.m * x.d < x.m * z.d
      fractions p q =
          lt_of_mul-lt-mul_right y.d
          (omega (arith, mul-lt-mul_of_pos_right p (range-denominator z r), mul-le-mul_right x.d q))

  -- At least and then above is above, where the first label is in range.
  pub ⪰-≻-transitive : in_range x ≡ true → x ⪰ y → y ≻ z → x ≻ z
  ⪰-≻-transitive r h k = ordered-≻ x z (compose fractions (⪰-ordered x y h) (≻-ordered y z k))
    where
      fractions : y.m * x.d ≤ x.m * y.d → z.m * y.d < y.m * z.d → z.m * x.d < x.m * z.d
      fractions p q =
          lt_of_mul-lt-mul_right y.d
          (omega (arith, mul-le-mul_right z.d p, mul-lt-mul_of_pos_right q (range-denominator x r)))
