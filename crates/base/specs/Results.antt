-- How a call ends (01, "Numbers for calls turned down"): for calls, runs, scripts and the console.
use Rattle.std.specs.Prelude.{ℕ, Bool, ◌&&◌, ltb, if◌then◌else◌}

-- Turned down with a number, or accepted with what it gives.
pub data Result (A : Type 0) : Type 0 where
  refused : (number : ℕ) → Result A
  accepted : A → Result A

-- "A number is returned in its row's case, where none tested earlier applies, and in no other."
infix 10 refuse◌when◌otherwise◌
unfoldable pub refuse◌when◌otherwise◌ : {A : Type 0} → ℕ → Bool → Result A → Result A
refuse◌when◌otherwise◌ number case rest = if case then refused number else rest

-- What is accepted, changed; and what is accepted, put to a further test.
unfoldable pub mapped : {A B : Type 0} → (A → B) → Result A → Result B
mapped f (refused number) = refused number
mapped f (accepted x) = accepted (f x)

infix 10 ◌and_then◌
unfoldable pub ◌and_then◌ : {A B : Type 0} → Result A → (A → Result B) → Result B
◌and_then◌ (refused number) f = refused number
◌and_then◌ (accepted x) f = f x

-- The answers that are refusals: those below 100. An accepted call that has no outcome number answers 0.
unfoldable pub is_refusal : ℕ → Bool
is_refusal answer = ltb 0 answer && ltb answer 100
