-- What the range of a label tells.
use Prim.Native.Nat.{◌<◌, ◌≤◌}
use mathlib.Core.Path.{◌≡◌, refl, sym, ◌∙◌}
use mathlib.Core.Bool.{Bool, true, false, ◌&&◌, or-false}
use native.Mathlib.Omega.{arith}
use lib.Dec.{ltb, eqb}
use borrow.Author.Tests.{lt-ltb, le-ltb, eq-eqb, ne_eqb, ltb-true, eqb-true, eqb-false}
use Rattle.base.proofs.Booleans.{both}
use Rattle.label.specs.declared.Label.{Label}
use Rattle.label.specs.Label.{unassigned, is_unassigned, in_range}

-- By cases on the sequence number.
pub range-zero : (l : Label) → l.s.0 ≡ 0 → in_range l ≡ eqb l.m 1 && eqb l.d 1
unfolding in_range is_unassigned
range-zero l e = simp (eq-eqb _ _ e, le-ltb 0 l.s.0 (omega arith), or-false)

pub range_other : (l : Label) → (l.s.0 ≡ 0 → ⊥) → in_range l ≡ ltb l.m l.d
unfolding in_range is_unassigned
range_other l e = simp (ne_eqb _ _ e, lt-ltb 0 l.s.0 (omega (arith, e)))

pub assigned-in-range : (l : Label) → 0 < l.s.0 → l.m < l.d → in_range l ≡ true
assigned-in-range l s m = range_other l (λ z. omega arith) ∙ lt-ltb _ _ m

pub unassigned-in-range : in_range unassigned ≡ true
unfolding in_range is_unassigned unassigned
unassigned-in-range = refl

-- A label in range is (0, 1/1), or has s > 0 and m < d.
pub data InRange (l : Label) : Type 0 where
  is-unassigned : l.s.0 ≡ 0 → l.m ≡ 1 → l.d ≡ 1 → InRange l
  is-assigned : 0 < l.s.0 → l.m < l.d → InRange l

pub range-cases : (l : Label) → in_range l ≡ true → InRange l
range-cases l h = go (eqb l.s.0 0) refl
  where
    go : (t : Bool) → eqb l.s.0 0 ≡ t → InRange l
    go true e =
        let z : l.s.0 ≡ 0 = eqb-true _ _ e in
        let w : (eqb l.m 1 ≡ true) × (eqb l.d 1 ≡ true) = both _ _ (sym (range-zero l z) ∙ h) in
        is-unassigned z (eqb-true _ _ w.0) (eqb-true _ _ w.1)
    go false e =
        let z : (l.s.0 ≡ 0 → ⊥) = eqb-false _ _ e in
        is-assigned (omega (arith, z)) (ltb-true _ _ (sym (range_other l z) ∙ h))

-- Its fraction is at most 1, and below 1 where it is assigned; its denominator is not 0.
pub range_fraction : (l : Label) → in_range l ≡ true → l.m ≤ l.d
range_fraction l h = go (range-cases l h)
  where
    go : InRange l → l.m ≤ l.d
    go (is-unassigned z m d) = omega arith
    go (is-assigned s m) = omega arith

pub range-assigned : (l : Label) → in_range l ≡ true → 0 < l.s.0 → l.m < l.d
range-assigned l h s = go (range-cases l h)
  where
    go : InRange l → l.m < l.d
    go (is-unassigned z m d) = absurd (omega arith)
    go (is-assigned s m) = m

pub range-denominator : (l : Label) → in_range l ≡ true → 0 < l.d
range-denominator l h = go (range-cases l h)
  where
    go : InRange l → 0 < l.d
    go (is-unassigned z m d) = omega arith
    go (is-assigned s m) = omega arith
