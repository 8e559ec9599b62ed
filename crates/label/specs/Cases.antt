-- The starred cases of 01, "Labels": New label from A, C and V, and what it gives; the last two as 02, F-6, changes them.
use Rattle.std.specs.Prelude.{ℕ, ◌≡◌, refl, false, List, [], ◌∷◌, map}
use Rattle.fraction.specs.Fraction.{is_between, least_above, first_from, simplest}
use Rattle.label.specs.declared.Label.{Label}
use Rattle.label.specs.Label.{label, is_unassigned, in_range, above, Outcome, took, gave, fitting, next, split, new_label_by, new_label_call}

-- The label (s, m/d).
infix 80 ⟨◌∣◌/◌⟩
abbrev pub ⟨◌∣◌/◌⟩ : ℕ → ℕ → ℕ → Label
⟨◌∣◌/◌⟩ s m d = label s m d

-- A case: A, C, V and what New label gives.
pub record Case : Type 0 where
  pub own : Label
  pub cached : Label
  pub advertised : Label
  pub given : Outcome

infix 70 ◌⨾◌⨾◌⇒◌
abbrev pub ◌⨾◌⨾◌⇒◌ : Label → Label → Label → Outcome → Case
◌⨾◌⨾◌⇒◌ a c v o = record { own = a; cached = c; advertised = v; given = o }

pub cases : List Case
cases =
    ⟨ 0 ∣ 1 / 1 ⟩ ⨾ ⟨ 0 ∣ 1 / 1 ⟩ ⨾ ⟨ 1 ∣ 0 / 1 ⟩ ⇒ took ⟨ 1 ∣ 1 / 2 ⟩
    ∷ ⟨ 1 ∣ 2 / 3 ⟩ ⨾ ⟨ 1 ∣ 2 / 3 ⟩ ⨾ ⟨ 1 ∣ 1 / 2 ⟩ ⇒ took ⟨ 1 ∣ 3 / 5 ⟩
    ∷ ⟨ 0 ∣ 1 / 1 ⟩ ⨾ ⟨ 1 ∣ 2 / 3 ⟩ ⨾ ⟨ 1 ∣ 3 / 5 ⟩ ⇒ took ⟨ 1 ∣ 5 / 8 ⟩
    ∷ ⟨ 1 ∣ 2 / 3 ⟩ ⨾ ⟨ 1 ∣ 3 / 4 ⟩ ⨾ ⟨ 1 ∣ 5 / 8 ⟩ ⇒ took ⟨ 1 ∣ 2 / 3 ⟩
    ∷ ⟨ 1 ∣ 1 / 2 ⟩ ⨾ ⟨ 0 ∣ 1 / 1 ⟩ ⨾ ⟨ 2 ∣ 0 / 1 ⟩ ⇒ took ⟨ 2 ∣ 1 / 2 ⟩
    ∷ ⟨ 1 ∣ 1 / 2 ⟩ ⨾ ⟨ 0 ∣ 1 / 1 ⟩ ⨾ ⟨ 1 ∣ 2 / 4 ⟩ ⇒ gave 112
    ∷ ⟨ 2 ∣ 1 / 2 ⟩ ⨾ ⟨ 0 ∣ 1 / 1 ⟩ ⨾ ⟨ 1 ∣ 0 / 1 ⟩ ⇒ gave 112
    ∷ ⟨ 0 ∣ 1 / 1 ⟩ ⨾ ⟨ 2 ∣ 1 / 2 ⟩ ⨾ ⟨ 1 ∣ 0 / 1 ⟩ ⇒ gave 113
    ∷ ⟨ 0 ∣ 1 / 1 ⟩ ⨾ ⟨ 0 ∣ 1 / 1 ⟩ ⨾ ⟨ 1 ∣ 1 / 4_294_967_294 ⟩ ⇒ took ⟨ 1 ∣ 2 / 4_294_967_295 ⟩
    ∷ ⟨ 0 ∣ 1 / 1 ⟩ ⨾ ⟨ 0 ∣ 1 / 1 ⟩ ⨾ ⟨ 1 ∣ 1 / 4_294_967_295 ⟩ ⇒ gave 114
    ∷ ⟨ 1 ∣ 2 / 3 ⟩ ⨾ ⟨ 1 ∣ 2 / 3 ⟩ ⨾ ⟨ 1 ∣ 1 / 4_294_967_292 ⟩ ⇒ took ⟨ 1 ∣ 1 / 2 ⟩
    ∷ ⟨ 1 ∣ 2 / 3 ⟩ ⨾ ⟨ 1 ∣ 2 / 3 ⟩ ⨾ ⟨ 1 ∣ 1 / 4_294_967_293 ⟩ ⇒ took ⟨ 1 ∣ 1 / 2 ⟩
    ∷ []

pub starred : map (λ k. new_label_call k.own k.cached k.advertised) cases ≡ map (λ k. k.given) cases
unfolding cases new_label_call in_range is_unassigned new_label_by above next split simplest first_from least_above is_between fitting
starred = refl

-- "2/4 is neither above nor below 1/2".
pub equal-fractions : (above ⟨ 1 ∣ 2 / 4 ⟩ ⟨ 1 ∣ 1 / 2 ⟩ ≡ false) × (above ⟨ 1 ∣ 1 / 2 ⟩ ⟨ 1 ∣ 2 / 4 ⟩ ≡ false)
unfolding above
equal-fractions = (refl, refl)
