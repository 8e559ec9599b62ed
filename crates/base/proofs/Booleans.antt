-- Laws of tests and of their answers.
use Prim.Native.Nat.{ℕ, ◌<◌}
use mathlib.Core.Path.{◌≡◌, refl, sym, ◌∙◌}
use mathlib.Core.Logic.{◌⊎◌, inl, inr}
use mathlib.Core.Bool.{Bool, true, false, not, ◌&&◌, ◌||◌, false≢true}
use native.Mathlib.Omega.{arith}
use lib.Dec.{ltb}
use borrow.Author.Tests.{not-true, not-false, ltb-true, ltb-false}
use Rattle.std.specs.Prelude.{if◌then◌else◌}

-- What a branch on a callee's answer t tells of the definition u that the callee's contract names.
pub was-true : (t u : Bool) → t ≡ u → t ≡ true → u ≡ true
was-true t u e h = sym e ∙ h

pub was-false : (t u : Bool) → t ≡ u → t ≡ false → u ≡ false
was-false t u e h = sym e ∙ h

pub not-was-true : (t u : Bool) → t ≡ u → not t ≡ false → u ≡ true
not-was-true t u e h = sym e ∙ not-false t h

pub not-was-false : (t u : Bool) → t ≡ u → not t ≡ true → u ≡ false
not-was-false t u e h = sym e ∙ not-true t h

pub ruleset booleans = (was-true, was-false, not-was-true, not-was-false)

-- No test is both.
pub clash : {A : Type 0} {t : Bool} → t ≡ true → t ≡ false → A
clash h k = absurd (false≢true (sym k ∙ h))

-- A test of two parts that passes passes in both; one of two choices that fails fails in both.
pub both : (t u : Bool) → t && u ≡ true → (t ≡ true) × (u ≡ true)
both true u h = (refl, h)
both false u h = absurd (false≢true h)

pub neither : (t u : Bool) → t || u ≡ false → (t ≡ false) × (u ≡ false)
neither true u h = clash refl h
neither false u h = (refl, h)

-- The other way round.
pub passes : {t u : Bool} → t ≡ true → u ≡ true → t && u ≡ true
passes h k = simp (h, k)

pub negates : {t : Bool} → t ≡ false → not t ≡ true
negates h = simp h

-- Two tests that pass in the same cases.
pub iff : (a b : Bool) → (a ≡ true → b ≡ true) → (b ≡ true → a ≡ true) → a ≡ b
iff true b f g = sym (f refl)
iff false true f g = g refl
iff false false f g = refl

-- What holds of either branch holds of the choice.
pub choose : {A : Type 0} (P : A → Type 0) (t : Bool) {a b : A} → (t ≡ true → P a) → (t ≡ false → P b) → P (if t then a else b)
choose P true f g = f refl
choose P false f g = g refl

-- By cases, the sum first.
pub cases : {A B C : Type 0} → A ⊎ B → (A → C) → (B → C) → C
cases (inl a) f g = f a
cases (inr b) f g = g b

-- Two numbers: the first is less, equal or more.
pub data Trichotomy (a b : ℕ) : Type 0 where
  less : a < b → Trichotomy a b
  equal : a ≡ b → Trichotomy a b
  more : b < a → Trichotomy a b

pub trichotomy : (a b : ℕ) → Trichotomy a b
trichotomy a b = go (ltb a b) refl (ltb b a) refl
  where
    go : (t : Bool) → ltb a b ≡ t → (u : Bool) → ltb b a ≡ u → Trichotomy a b
    go true e u k = less (ltb-true a b e)
    go false e true k = more (ltb-true b a k)
    go false e false k = equal (omega (arith, ltb-false))
