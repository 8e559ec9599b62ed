-- Laws of a preview: one for each way in which its Deliver ends.
use Prim.Native.Nat.{ℕ}
use mathlib.Core.Path.{◌≡◌, refl, ap, ◌∙◌}
use mathlib.Core.Bool.{true, false}
use Rattle.base.proofs.Booleans.{clash}
use Rattle.base.specs.Results.{Result, refused, accepted, mapped, is_refusal}
use Rattle.model.specs.Memory.{Body, request, reply, error, other, Network, packet_at, memory_in_range}
use Rattle.model.specs.Calls.{Deliver, Effect, step}
use Rattle.model.specs.Preview.{holding_shown, emptying_shown, effect_shown, previewing, shown_of, preview}
use Rattle.model.proofs.Answers.{refused-tells, accepted-tells}
use Rattle.model.proofs.Refusals.{out_of_range}

module _ (net : Network) (k : ℕ) where
  pub previewing-refused : (number : ℕ) → step (Deliver k) net ≡ refused number → previewing net k ≡ refused number
  unfolding previewing mapped
  previewing-refused number e = rw e

  pub previewing-accepted : (e : Effect) → step (Deliver k) net ≡ accepted e
      → let p = packet_at net k in previewing net k ≡ accepted (effect_shown p.receiver p.body net e)
  unfolding previewing mapped
  previewing-accepted e h = rw h

  pub previewing-out-of-range : memory_in_range net ≡ false → previewing net k ≡ refused 1
  previewing-out-of-range h = previewing-refused 1 (out_of_range (Deliver k) net _ h)

-- The answer of a preview is that of its Deliver.
effect-answer : (i : ℕ) (b : Body) (net : Network) (e : Effect) → (effect_shown i b net e).answer ≡ e.answer
unfolding effect_shown holding_shown emptying_shown
effect-answer i (request R) net e = refl
effect-answer i (reply v) net e = refl
effect-answer i (error mask) net e = refl
effect-answer i (other kind) net e = refl

-- So it tells whether the preview was turned down.
module _ (net : Network) (k : ℕ) where
  abbrev Told : Result Effect → Type 0
  Told z = (is_refusal (preview net k).answer ≡ true → previewing net k ≡ refused (preview net k).answer)
      × (is_refusal (preview net k).answer ≡ false → previewing net k ≡ accepted (preview net k))

  pub preview-tells : Told (step (Deliver k) net)
  unfolding preview shown_of
  preview-tells = go (step (Deliver k) net) refl
    where
      go : (z : Result Effect) → step (Deliver k) net ≡ z → Told z
      go (refused number) e =
          let is = previewing-refused net k number e in
          rw is (λ h. refl, λ h. clash (refused-tells (Deliver k) net number e) h)
      go (accepted f) e =
          let p = packet_at net k in
          let is = previewing-accepted net k f e in
          rw is (λ h. clash h (ap is_refusal (effect-answer p.receiver p.body net f) ∙ accepted-tells (Deliver k) net f e), λ h. refl)
