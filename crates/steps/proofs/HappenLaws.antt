-- Laws of events, as the code makes them.
use Prim.Native.Nat.{ℕ}
use mathlib.Core.Path.{◌≡◌, refl, sym, ap, subst, ◌∙◌}
use mathlib.Core.Bool.{true, false}
use mathlib.Core.List.{[], ◌∷◌}
use lib.ListN.{length}
use lib.Dec.{eqb}
use Rattle.base.proofs.Booleans.{choose}
use Rattle.base.specs.Results.{Result, refused, accepted}
use Rattle.model.specs.Memory.{memory_in_range}
use Rattle.model.specs.Calls.{Call, Effect, step, run, Traced, traced, trace}
use Rattle.model.specs.Events.{not_event, call_of, Event, calls, traces, no_event, no_event_answer, event_of, calls_in}
use Rattle.model.specs.Printout.{Line, line, result_line, line_of}
use Rattle.model.proofs.Tracing.{trace-out-of-range}
use Rattle.model.proofs.EventLaws.{call-on-memory, run_call, run-trace, run-no-event}
use Rattle.network.specs.declared.Memory.{Memory}
use Rattle.network.specs.View.{view}
use Rattle.network.proofs.PacketLaws.{air-length}
use Rattle.steps.specs.declared.Done.{Done}
use Rattle.steps.specs.declared.Happened.{Happened}
use Rattle.steps.specs.Called.{done, Called}
use Rattle.steps.specs.Happens.{happened, Happens, InRange}
use Rattle.steps.proofs.CallLaws.{called-out-of-range, called-after, called-in-range, called-sized}

module _ (memory : Memory) (e : Event) where
  -- No event, a Trace, and a call.
  pub happens-none : e ≡ no_event → memory_in_range (view memory) ≡ true → Happens memory e (happened memory 11 0 0)
  unfolding Happens no_event_answer
  happens-none q h = subst (λ z. Happens memory z (happened memory 11 0 0)) (sym q) (rw h)

  pub happens-trace : (a t answer hops : ℕ) → e ≡ traces a t → traced answer hops ≡ trace (view memory) a t → Happens memory e (happened memory answer 0 hops)
  unfolding Happens
  happens-trace a t answer hops q h =
      subst (λ z. Happens memory z (happened memory answer 0 hops)) (sym q) (ap (λ (r : Traced). happened memory r.answer 0 r.hops) h)

  pub happens-call : (c : Call) (d : Done) → e ≡ calls c → Called memory (step c (view memory)) d → Happens memory e (happened d.memory d.answer d.sent 0)
  unfolding Happens
  happens-call c d q h = subst (λ z. Happens memory z (happened d.memory d.answer d.sent 0)) (sym q) (h, refl)

-- Memory out of range.
pub happens-out-of-range : (memory : Memory) (kind a b : ℕ) → memory_in_range (view memory) ≡ false → Happens memory (event_of kind a b) (happened memory 1 0 0)
unfolding Happens event_of no_event_answer
happens-out-of-range memory kind a b h =
    choose (λ z. Happens memory z (happened memory 1 0 0)) (not_event kind b) (λ e. rw h)
    (λ e. choose (λ z. Happens memory z (happened memory 1 0 0)) (eqb kind 9)
    (λ q. ap (λ (r : Traced). happened memory r.answer 0 r.hops) (sym (trace-out-of-range (view memory) a b h)))
    (λ q. (called-out-of-range memory (call_of kind a b) (call-on-memory kind a b) h, refl)))

-- An event leaves the model's network, and memory in range.
module _ (memory : Memory) where
  pub happens-after : (e : Event) (r : Happened) → Happens memory e r → view r.memory ≡ run (calls_in (e ∷ [])) (view memory)
  unfolding Happens
  happens-after (calls c) r h = called-after memory (step c (view memory)) (done r.memory r.answer r.sent) h.0 ∙ sym (run_call (view memory) c)
  happens-after (traces a t) r h = ap (λ (x : Happened). view x.memory) h ∙ sym (run-trace (view memory) a t)
  happens-after no_event r h = ap (λ (x : Happened). view x.memory) h ∙ sym (run-no-event (view memory))

  pub happens-in-range : (e : Event) (r : Happened) → Happens memory e r → memory_in_range (view memory) ≡ true → memory_in_range (view r.memory) ≡ true
  unfolding Happens
  happens-in-range (calls c) r h m = called-in-range memory (step c (view memory)) (done r.memory r.answer r.sent) h.0 m
  happens-in-range (traces a t) r h m = ap (λ (x : Happened). memory_in_range (view x.memory)) h ∙ m
  happens-in-range no_event r h m = ap (λ (x : Happened). memory_in_range (view x.memory)) h ∙ m

  -- It keeps memory in range, and its tables their sizes.
  pub happens-known : (e : Event) (r : Happened) → Happens memory e r → InRange memory → InRange r.memory
  unfolding Happens
  happens-known (calls c) r h k =
      record { ranged = called-in-range memory (step c (view memory)) (done r.memory r.answer r.sent) h.0 k.ranged; sized = called-sized memory c (done r.memory r.answer r.sent) k.sized h.0 }
  happens-known (traces a t) r h k = subst (λ (x : Happened). InRange x.memory) (sym h) k
  happens-known no_event r h k = subst (λ (x : Happened). InRange x.memory) (sym h) k

-- The line of an event has the numbers that the code gave, and its packets in the air are counted after it.
module _ (memory : Memory) (index kind a b : ℕ) where
  air-count : (m : Memory) → length (view m).air ≡ m.air.count
  unfolding view
  air-count m = air-length m.air

  called-line : (z : Result Effect) (d : Done) → Called memory z d
      → result_line index kind a b (view memory) z ≡ line index kind a b d.answer d.sent d.memory.air.count 0
  unfolding Called result_line
  called-line (refused number) d h =
      ap (λ (c : ℕ). line index kind a b number 0 c 0) (air-count memory) ∙ ap (λ (x : Done). line index kind a b x.answer x.sent x.memory.air.count 0) (sym h)
  called-line (accepted e) d h =
      ap (λ (x : Effect). line index kind a b x.answer x.sent (length x.net.air) 0) (sym h.0)
      ∙ ap (λ (c : ℕ). line index kind a b d.answer d.sent c 0) (air-count d.memory)

  abbrev numbers : Happened → Line
  numbers r = line index kind a b r.answer r.sent r.memory.air.count r.hops

  pub happens-line : (e : Event) (r : Happened) → Happens memory e r
      → line_of index kind a b (view memory) e ≡ line index kind a b r.answer r.sent r.memory.air.count r.hops
  unfolding Happens line_of
  happens-line (calls c) r h =
      called-line (step c (view memory)) (done r.memory r.answer r.sent) h.0
      ∙ ap (line index kind a b r.answer r.sent r.memory.air.count) (sym h.1)
  happens-line (traces x t) r h =
      ap (λ (c : ℕ). line index kind a b (trace (view memory) x t).answer 0 c (trace (view memory) x t).hops) (air-count memory) ∙ ap numbers (sym h)
  happens-line no_event r h = ap (λ (c : ℕ). line index kind a b (no_event_answer (view memory)) 0 c 0) (air-count memory) ∙ ap numbers (sym h)
