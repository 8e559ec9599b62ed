-- What a call's contract says.
use Rattle.std.specs.Prelude.{ℕ, ◌≡◌, true}
use Rattle.base.specs.Results.{Result, refused, accepted}
use Rattle.model.specs.Memory.{memory_in_range}
use Rattle.model.specs.Calls.{Effect, effect}
use Rattle.network.specs.declared.Memory.{Memory}
use Rattle.network.specs.View.{view}
use Rattle.steps.specs.declared.Done.{Done}

abbrev pub done : Memory → ℕ → ℕ → Done
done memory answer sent = record { memory = memory; answer = answer; sent = sent }

-- What an accepted call gives, read as the model's.
abbrev pub effect_of : Done → Effect
effect_of r = effect r.answer r.sent (view r.memory)

-- A call on this memory ended so. Turned down, it gives its number and the same memory, bit for bit. Accepted, it gives the model's outcome
-- number, packets sent and network; the memory is in range, so that the next call is not turned down with 1. Free are the places that have
-- no part in the reading (View.antt): what they hold decides nothing, since the result depends on the reading alone.
unfoldable pub Called : Memory → Result Effect → Done → Type 0
Called memory (refused number) r = r ≡ done memory number 0
Called memory (accepted e) r = (effect_of r ≡ e) × (memory_in_range (view r.memory) ≡ true)
