-- An event of narrowed numbers is that of the numbers themselves.
use Prim.Native.Nat.{ℕ, min}
use mathlib.Core.Path.{◌≡◌, ap, subst, ◌∙◌}
use mathlib.Core.Logic.{◌≢◌}
use mathlib.Core.Bool.{false}
use Rattle.model.specs.Calls.{step, traced, trace}
use Rattle.model.specs.Events.{uses_one, not_event, call_of, event_of}
use Rattle.model.specs.Memory.{Sized}
use Rattle.model.proofs.EventLaws.{event-call}
use Rattle.model.proofs.Narrowing.{not-event-narrowed, call-narrowed, trace-narrowed}
use Rattle.network.specs.declared.Memory.{Memory}
use Rattle.network.specs.View.{view}
use Rattle.steps.specs.declared.Happened.{Happened}
use Rattle.steps.specs.Called.{done, Called}
use Rattle.steps.specs.Happens.{Happens}

module _ (memory : Memory) (sized : Sized (view memory)) (kind a b x y : ℕ) (r : Happened) (narrow-a : x ≡ min a 255) (narrow-b : y ≡ min b 255)
    (happens : Happens memory (event_of kind x y) r) where
  same : Happens memory (event_of kind (min a 255) (min b 255)) r
  same = rw (narrow-a, narrow-b) at happens

  pub call-is : kind ≢ 9 → not_event kind b ≡ false → Called memory (step (call_of kind a b) (view memory)) (done r.memory r.answer r.sent)
  unfolding Happens
  call-is nine h =
      let made = subst (λ e. Happens memory e r) (event-call kind (min a 255) (min b 255) (not-event-narrowed kind b ∙ h) nine) same in
      subst (λ z. Called memory z (done r.memory r.answer r.sent)) (call-narrowed (view memory) sized a b kind) made.0

  pub trace-is : kind ≡ 9 → traced r.answer r.hops ≡ trace (view memory) a b
  unfolding Happens event_of not_event uses_one
  trace-is e = ap (λ (z : Happened). traced z.answer z.hops) (rw e at same) ∙ trace-narrowed (view memory) sized a b
