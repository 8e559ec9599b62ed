-- New label by its cases, and that the label it takes maintains order.
use Prim.Native.Nat.{ℕ, ◌<◌, ◌≤◌}
use mathlib.Core.Path.{◌≡◌, refl, sym, ◌∙◌}
use mathlib.Core.Logic.{◌⊎◌, inl, inr}
use mathlib.Core.Bool.{Bool, true, false}
use native.Mathlib.Nat.{lt_of_lt_of_le}
use native.Mathlib.Omega.{arith}
use lib.Dec.{ltb}
use borrow.Author.Tests.{lt-ltb, le-ltb, eq-eqb, ltb-true, ltb-false}
use Rattle.base.specs.Numbers.{max_u32}
use Rattle.base.proofs.Booleans.{clash}
use Rattle.fraction.specs.declared.Fraction.{Fraction}
use Rattle.fraction.specs.Fraction.{◌⊏◌, Between, Simplest, simplest}
use Rattle.fraction.proofs.Runs.{sums-between}
use Rattle.fraction.proofs.Simplest.{simplest-is, between-proper}
use Rattle.label.specs.declared.Label.{Label}
use Rattle.label.specs.Label.{label, in_range, above, ◌≻◌, ◌⪰◌, Outcome, took, gave, fraction_of, fitting, next, Splitting, split, mediant, SplitRule, new_label_by, new_label, MaintainsOrder, KeepsOrder}
use Rattle.label.proofs.Range.{assigned-in-range, range-cases, InRange, is-unassigned, is-assigned, range_fraction, range-assigned}
use Rattle.label.proofs.Order.{above_lower, above-higher, Ordered, by_number, by_fraction, ≻-ordered, ordered-≻, ≻-number, ⪰-number, above_same, ≻-irreflexive, ≻-asymmetric, ⪰-≻-transitive}

-- A denominator that fits, and one that doesn't.
pub fitting-fits : (s m d : ℕ) → d ≤ max_u32 → fitting s m d ≡ took (label s m d)
unfolding fitting
fitting-fits s m d h = simp (le-ltb max_u32 d h)

pub fitting-over : (s m d : ℕ) → max_u32 < d → fitting s m d ≡ gave 114
unfolding fitting
fitting-over s m d h = simp (lt-ltb _ _ h)

-- What is given as a number is not taken.
gave-none : {A : Type 0} {o : Outcome} {g : Label} {n : ℕ} → o ≡ gave n → o ≡ took g → A
gave-none h k = let z : ◌≡◌ {A = ℕ} 0 1 = cc in absurd (omega arith)

-- What fits is the label itself.
fitting-took : (s m d : ℕ) (g : Label) → fitting s m d ≡ took g → g ≡ label s m d
fitting-took s m d g h = go (ltb max_u32 d) refl
  where
    go : (t : Bool) → ltb max_u32 d ≡ t → g ≡ label s m d
    go true e = gave-none (fitting-over s m d (ltb-true _ _ e)) h
    go false e = cc (fitting-fits s m d (ltb-false _ _ e))

-- What doesn't gives 114, and no other number is given.
fitting-gave : (s m d k : ℕ) → fitting s m d ≡ gave k → (max_u32 < d) × (k ≡ 114)
fitting-gave s m d k h = go (ltb max_u32 d) refl
  where
    go : (t : Bool) → ltb max_u32 d ≡ t → (max_u32 < d) × (k ≡ 114)
    go true e = let over = ltb-true _ _ e in (over, cc (fitting-over s m d over))
    go false e = gave-none h (fitting-fits s m d (ltb-false _ _ e))

-- Where c is above v and both have one sequence number, v's fraction is smaller.
pub ≻-smaller : (c v : Label) → c ≻ v → c.s.0 ≡ v.s.0 → fraction_of v ⊏ fraction_of c
≻-smaller c v h e = record { products = ltb-true _ _ (sym (above_same c v e) ∙ h) }

-- How New label takes the label g, by a rule for splits: as the next one, as the split, or as the own label, which is kept.
pub data Taken (splits : Splitting) (a c v g : Label) : Type 0 where
  by_next : a.s.0 < v.s.0 → c.s.0 < v.s.0 → next v ≡ took g → Taken splits a c v g
  by-split : c.s.0 ≡ v.s.0 → fraction_of v ⊏ fraction_of c → (a.s.0 < v.s.0) ⊎ (a ⪰ c) → splits c v ≡ took g → Taken splits a c v g
  own-kept : g ≡ a → c ≻ a → a ≻ v → a.s.0 ≡ v.s.0 → Taken splits a c v g

-- New label, by its cases.
module _ (splits : Splitting) (a c v : Label) where
  pub new-112 : above a v ≡ false → new_label_by splits a c v ≡ gave 112
  unfolding new_label_by
  new-112 ha = simp ha

  pub new-113 : above a v ≡ true → above c v ≡ false → new_label_by splits a c v ≡ gave 113
  unfolding new_label_by
  new-113 ha hc = simp (ha, hc)

  module _ (ha : above a v ≡ true) (hc : above c v ≡ true) where
    pub new-next : a.s.0 < v.s.0 → c.s.0 < v.s.0 → new_label_by splits a c v ≡ next v
    unfolding new_label_by
    new-next la lc = simp (ha, hc, lt-ltb _ _ la, lt-ltb _ _ lc)

    pub new-split-cached : a.s.0 < v.s.0 → v.s.0 ≤ c.s.0 → new_label_by splits a c v ≡ splits c v
    unfolding new_label_by
    new-split-cached la lc = simp (ha, hc, lt-ltb _ _ la, le-ltb _ _ lc, eq-eqb c.s.0 v.s.0 (omega (arith, ≻-number c v hc)))

    pub new-own : v.s.0 ≤ a.s.0 → above c a ≡ true → new_label_by splits a c v ≡ took a
    unfolding new_label_by
    new-own la h = simp (ha, hc, le-ltb _ _ la, h)

    pub new_split : v.s.0 ≤ a.s.0 → above c a ≡ false → new_label_by splits a c v ≡ splits c v
    unfolding new_label_by
    new_split la h = simp (ha, hc, le-ltb _ _ la, h)

    -- A split is what is left, and then the cached label has the advertised sequence number.
    pub new-split-left : (a.s.0 < v.s.0) × (v.s.0 ≤ c.s.0) ⊎ (v.s.0 ≤ a.s.0) × (above c a ≡ false)
        → (new_label_by splits a c v ≡ splits c v) × (c.s.0 ≡ v.s.0)
    new-split-left (inl (l, n)) = (new-split-cached l n, omega (arith, ≻-number c v hc))
    new-split-left (inr (l, k)) = (new_split l k, omega (arith, ≻-number c v hc, ⪰-number a c k))

    -- Where the own and the cached label are above the advertised one.
    taken-above : {g : Label} → new_label_by splits a c v ≡ took g → Ordered ◌<◌ a v → Ordered ◌<◌ c v → (t : Bool) → above c a ≡ t → Taken splits a c v g
    taken-above h (by_number l) (by_number n) t k = by_next l n (sym (new-next l n) ∙ h)
    taken-above h (by_number l) (by_fraction f _) t k = by-split f (≻-smaller c v hc f) (inl l) (sym (new-split-cached l (omega arith)) ∙ h)
    taken-above h (by_fraction e _) o true k = own-kept (cc (new-own (omega arith) k)) k ha e
    taken-above h (by_fraction e _) (by_number l) false k = clash (above_lower c a (omega arith)) k
    taken-above h (by_fraction e _) (by_fraction f _) false k = by-split f (≻-smaller c v hc f) (inr k) (sym (new_split (omega arith) k) ∙ h)

  -- A label that New label takes is taken in one of the three ways.
  pub taken : {g : Label} → new_label_by splits a c v ≡ took g → Taken splits a c v g
  taken {g} h = go (above a v) refl (above c v) refl
    where
      go : (t : Bool) → above a v ≡ t → (u : Bool) → above c v ≡ u → Taken splits a c v g
      go false ha u hc = gave-none (new-112 ha) h
      go true ha false hc = gave-none (new-113 ha hc) h
      go true ha true hc = taken-above ha hc h (≻-ordered a v ha) (≻-ordered c v hc) (above c a) refl

-- A rule for splits that takes labels of the advertised sequence number, with fractions strictly between.
record Splits (c v g : Label) : Type 0 where
  number : g.s.0 ≡ v.s.0
  between : Between (fraction_of v) (fraction_of c) (fraction_of g)

abbrev SplitsBetween : Splitting → Type 0
SplitsBetween splits = (c v g : Label) → fraction_of v ⊏ fraction_of c → splits c v ≡ took g → Splits c v g

module _ (a c v g : Label) (ra : in_range a ≡ true) (rc : in_range c ≡ true) (rv : in_range v ≡ true) where
  -- (v, (p+1)/(q+1)) maintains order where it is given.
  next-maintains : a.s.0 < v.s.0 → c.s.0 < v.s.0 → next v ≡ took g → MaintainsOrder a c v g
  unfolding next
  next-maintains la lc h =
      let p : v.m < v.d = range-assigned v rv (omega arith) in
      rw (fitting-took _ _ _ g h)
      (record {
        own = above-higher _ a la;
        cached = above_lower c _ lc;
        advertised = ordered-≻ _ v (by_fraction refl (omega arith));
        ranged = assigned-in-range _ (omega arith) (omega arith);
      })

  -- Labels of one sequence number, whose fractions differ, are assigned.
  both-assigned : c.s.0 ≡ v.s.0 → fraction_of v ⊏ fraction_of c → 0 < v.s.0
  both-assigned e h = go (range-cases c rc) (range-cases v rv)
    where
      go : InRange c → InRange v → 0 < v.s.0
      go (is-unassigned _ m d) (is-unassigned _ p q) = absurd (omega (arith, simp (m, d, p, q) at h.products))
      go (is-unassigned _ _ _) (is-assigned s _) = s
      go (is-assigned s _) w = omega arith

  -- A split maintains order where it is given.
  split-maintains : c.s.0 ≡ v.s.0 → fraction_of v ⊏ fraction_of c → (a.s.0 < v.s.0) ⊎ (a ⪰ c) → Splits c v g → MaintainsOrder a c v g
  split-maintains e smaller o s =
      record {
        own = own o;
        cached = below;
        advertised = ordered-≻ g v (by_fraction s.number s.between.above.products);
        ranged = assigned-in-range g (omega (arith, s.number, both-assigned e smaller)) (between-proper s.between (range_fraction c rc));
      }
    where
      below : c ≻ g
      below = ordered-≻ c g (by_fraction (e ∙ sym s.number) s.between.below.products)

      own : (a.s.0 < v.s.0) ⊎ (a ⪰ c) → a ⪰ g
      own (inl k) = above-higher g a (omega (arith, s.number))
      own (inr k) = ≻-asymmetric a g (⪰-≻-transitive a c g ra k below)

module _ (splits : Splitting) (between : SplitsBetween splits) where
  -- The label that New label takes maintains order, by any such rule.
  keeps-order : KeepsOrder splits
  keeps-order a c v g ra rc rv h = go (taken splits a c v h)
    where
      go : Taken splits a c v g → MaintainsOrder a c v g
      go (by_next l n k) = next-maintains a c v g ra rc rv l n k
      go (by-split e smaller o k) = split-maintains a c v g ra rc rv e smaller o (between c v g smaller k)
      go (own-kept z k ha _) = rw z (record { own = ≻-irreflexive a; cached = k; advertised = ha; ranged = ra })

  -- It has the advertised sequence number.
  keeps-number : (a c v g : Label) → new_label_by splits a c v ≡ took g → g.s.0 ≡ v.s.0
  unfolding next
  keeps-number a c v g h = go (taken splits a c v h)
    where
      go : Taken splits a c v g → g.s.0 ≡ v.s.0
      go (by_next _ _ k) = rw (fitting-took _ _ _ g k)
      go (by-split _ smaller _ k) = (between c v g smaller k).number
      go (own-kept z _ _ e) = rw z e

-- The split keeps F-6's rule.
pub split-rule : (c v : Label) → fraction_of v ⊏ fraction_of c → SplitRule c v (split c v)
unfolding split
split-rule c v h =
    record {
      number = λ g e. rw (is g e);
      taken = λ g e. rw (is g e) s;
      overflow = (λ e f b. lt_of_lt_of_le (fitting-gave _ _ _ 114 e).0 (s.denominator f b), λ none. fitting-over _ _ _ (none z s.between));
      only = λ k e. (fitting-gave _ _ _ k e).1;
    }
  where
    z : Fraction
    z = simplest (fraction_of v) (fraction_of c)

    s : Simplest (fraction_of v) (fraction_of c) z
    s = simplest-is h

    is : (g : Label) → split c v ≡ took g → g ≡ label v.s.0 z.m z.d
    is g e = fitting-took v.s.0 z.m z.d g e

-- It lies strictly between, and so does the mediant.
split_between : SplitsBetween split
split_between c v g h e = let rule = split-rule c v h in record { number = rule.number g e; between = (rule.taken g e).between }

mediant-between : SplitsBetween mediant
unfolding mediant
mediant-between c v g h e = rw (fitting-took _ _ _ g e) (record { number = refl; between = sums-between h })

-- So New label maintains order by either rule.
pub new-label-maintains : KeepsOrder split
new-label-maintains = keeps-order split split_between

pub mediant-maintains : KeepsOrder mediant
mediant-maintains = keeps-order mediant mediant-between

pub new-number : (a c v g : Label) → new_label a c v ≡ took g → g.s.0 ≡ v.s.0
new-number = keeps-number split split_between
