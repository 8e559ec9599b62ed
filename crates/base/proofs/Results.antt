-- Laws of how a call ends.
use Prim.Native.Nat.{ℕ}
use mathlib.Core.Path.{◌≡◌, refl, sym, subst}
use mathlib.Core.Bool.{Bool, true, false}
use native.Mathlib.Omega.{arith}
use Rattle.base.specs.Results.{Result, refused, accepted, refuse◌when◌otherwise◌}
use Rattle.base.proofs.Booleans.{choose}

module _ {A : Type 0} where
  -- The test applies, or passes.
  pub refuse-holds : (number : ℕ) (case : Bool) (rest : Result A) → case ≡ true → refuse number when case otherwise rest ≡ refused number
  unfolding refuse◌when◌otherwise◌
  refuse-holds number case rest e = rw e

  pub refuse-passes : (number : ℕ) (case : Bool) (rest : Result A) → case ≡ false → refuse number when case otherwise rest ≡ rest
  unfolding refuse◌when◌otherwise◌
  refuse-passes number case rest e = rw e

  -- What is turned down is not accepted, and what is accepted was turned down by no test.
  pub not-accepted : {B : Type 0} {number : ℕ} {x : A} → refused number ≡ accepted x → B
  not-accepted h = let z : ◌≡◌ {A = ℕ} 0 1 = cc in absurd (omega arith)

  pub same-accepted : {x y : A} → accepted x ≡ accepted y → x ≡ y
  same-accepted h = cc

  pub same-refused : {j k : ℕ} → ◌≡◌ {A = Result A} (refused j) (refused k) → j ≡ k
  same-refused h = cc

  pub not-turned-down : (number : ℕ) (case : Bool) (rest : Result A) (x : A) → refuse number when case otherwise rest ≡ accepted x → (case ≡ false) × (rest ≡ accepted x)
  unfolding refuse◌when◌otherwise◌
  not-turned-down number true rest x h = not-accepted h
  not-turned-down number false rest x h = (refl, h)

-- Every number that it may be turned down with has the property P, and what it gives has Q.
pub data Satisfies {A : Type 0} (P : ℕ → Type 0) (Q : A → Type 0) : Result A → Type 0 where
  refuses : {number : ℕ} → P number → Satisfies P Q (refused number)
  accepts : {x : A} → Q x → Satisfies P Q (accepted x)

module _ {A : Type 0} {P : ℕ → Type 0} {Q : A → Type 0} where
  -- Past a test that passes.
  pub satisfies-refuse : (number : ℕ) (case : Bool) (rest : Result A) → P number → (case ≡ false → Satisfies P Q rest) → Satisfies P Q (refuse number when case otherwise rest)
  unfolding refuse◌when◌otherwise◌
  satisfies-refuse number case rest h k = choose (Satisfies P Q) case (λ e. refuses h) k

  pub satisfies-refused : (r : Result A) (number : ℕ) → Satisfies P Q r → r ≡ refused number → P number
  satisfies-refused (refused k) number (refuses h) e = let q : k ≡ number = cc in subst P q h
  satisfies-refused (accepted x) number t e = not-accepted (sym e)

  pub satisfies-accepted : (r : Result A) (x : A) → Satisfies P Q r → r ≡ accepted x → Q x
  satisfies-accepted (refused k) x t e = not-accepted e
  satisfies-accepted (accepted y) x (accepts h) e = subst Q (same-accepted e) h
