-- What the contract of an event says.
use Rattle.std.specs.Prelude.{ℕ, ◌%◌, ◌≡◌, true, get_or}
use Rattle.model.specs.Memory.{memory_in_range, Sized}
use Rattle.model.specs.Calls.{step, trace}
use Rattle.model.specs.Events.{Event, calls, traces, no_event, no_event_answer, event_of}
use Rattle.network.specs.declared.Memory.{Memory}
use Rattle.network.specs.View.{zero_packet, view}
use Rattle.refusing.specs.Refusing.{Tests}
use Rattle.steps.specs.declared.Happened.{Happened}
use Rattle.steps.specs.declared.Outcome.{Outcome}
use Rattle.steps.specs.Called.{done, Called}

abbrev pub happened : Memory → ℕ → ℕ → ℕ → Happened
happened memory answer sent hops = record { memory = memory; answer = answer; sent = sent; hops = hops }

-- An event on this memory gave this. A call ends as it does by itself; a Trace, and what is no event, leave the memory bit for bit.
unfoldable pub Happens : Memory → Event → Happened → Type 0
Happens memory (calls c) r = Called memory (step c (view memory)) (done r.memory r.answer r.sent) × (r.hops ≡ 0)
Happens memory (traces a t) r = r ≡ happened memory (trace (view memory) a t).answer 0 (trace (view memory) a t).hops
Happens memory no_event r = r ≡ happened memory (no_event_answer (view memory)) 0 0

-- The same where the memory is lent.
abbrev pub outcome : (answer sent hops : ℕ) → Outcome
outcome answer sent hops = record { answer = answer; sent = sent; hops = hops }

abbrev pub Happening : Memory → Event → Outcome → Memory → Type 0
Happening memory e r next = Happens memory e (happened next r.answer r.sent r.hops)

-- Memory in range, whose tables have their sizes.
pub record InRange (memory : Memory) : Type 0 where
  pub ranged : memory_in_range (view memory) ≡ true
  pub sized : Sized (view memory)

-- An event on it that no test but those for 13 and 7 turns down.
pub record Passed (memory : Memory) (kind a b : ℕ) : Type 0 where
  pub known : InRange memory
  pub tests : Tests (view memory) (event_of kind a b) 0

-- The kind of the packet that an event names by a.
abbrev pub carried_by : Memory → (a : ℕ) → ℕ
carried_by memory a = (get_or memory.air.packets (a % 128) zero_packet).kind
