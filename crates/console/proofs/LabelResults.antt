-- What New label gave, told in one number.
use Prim.Native.Nat.{ℕ, ◌<◌}
use mathlib.Core.Path.{◌≡◌, refl}
use mathlib.Core.Bool.{Bool, true, false, not, ◌&&◌}
use native.Mathlib.Omega.{arith}
use borrow.Author.Tests.{ne_eqb}
use Rattle.std.specs.Prelude.{if◌then◌else◌}
use Rattle.base.proofs.Booleans.{both}
use Rattle.label.specs.declared.Label.{Label}
use Rattle.label.specs.Label.{in_range, took, gave, new_label, new_label_call}
use Rattle.label.proofs.Range.{range-denominator}
use Rattle.label.proofs.New.{new-label-maintains, new-number}
use Rattle.console.specs.Packed.{packed, outcome_in}
use Rattle.console.proofs.ConsoleLaws.{unpacked}

-- The label that the call takes has the advertised sequence number and a denominator.
module _ (a c v g : Label) (h : new_label_call a c v ≡ took g) where
  ranged : (in_range a && in_range c && in_range v ≡ true) × (new_label a c v ≡ took g)
  unfolding new_label_call
  ranged = go (in_range a && in_range c && in_range v) refl h
    where
      go : (t : Bool) → in_range a && in_range c && in_range v ≡ t → (if not t then gave 1 else new_label a c v) ≡ took g
          → (in_range a && in_range c && in_range v ≡ true) × (new_label a c v ≡ took g)
      go true e k = (e, k)
      go false e k = let z : ◌≡◌ {A = ℕ} 0 1 = cc in absurd (omega arith)

  pub took-told : g.m < 4_294_967_296 → outcome_in v.s.0 (packed g.m g.d) ≡ took g
  unfolding outcome_in
  took-told small =
      let firsts = both (in_range a && in_range c) (in_range v) ranged.0 in
      let two = both (in_range a) (in_range c) firsts.0 in
      let number : g.s.0 ≡ v.s.0 = new-number a c v g ranged.1 in
      let order = new-label-maintains a c v g two.0 two.1 firsts.1 ranged.1 in
      let halves = unpacked g.m g.d small in
      rw (halves.0, halves.1, ne_eqb g.d 0 (λ z. omega (arith, range-denominator g order.ranged)), ← number)

-- A number that is given stands beside a count of 0.
pub gave-told : (s n : ℕ) → n < 4_294_967_296 → outcome_in s (packed n 0) ≡ gave n
unfolding outcome_in
gave-told s n small = let halves = unpacked n 0 small in rw (halves.1, halves.0)
