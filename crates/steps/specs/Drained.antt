-- What the contract of draining the air says.
use Rattle.std.specs.Prelude.{ℕ, ◌≡◌, Bool, true, false, List}
use Rattle.label.specs.Label.{Splitting}
use Rattle.draining.specs.Draining as draining
use Rattle.draining.specs.Draining.{Turn, deliveries_in, losses_in}
use Rattle.network.specs.declared.Memory.{Memory}
use Rattle.network.specs.View.{view}
use Rattle.steps.specs.declared.Drained.{Drained}

abbrev pub drained : Memory → (answer deliveries losses : ℕ) → Drained
drained memory answer deliveries losses = record { memory = memory; answer = answer; deliveries = deliveries; losses = losses }

-- The turns of the plain repetition from this memory, by a rule for splits, left the memory given, and the two counts are theirs.
pub record DrainedTo (splits : Splitting) (memory : Memory) (r : Drained) : Type 0 where
  pub turns : List Turn
  pub drained : draining.Drained splits (view memory) turns (view r.memory)
  pub answer : r.answer ≡ 0
  pub deliveries : r.deliveries ≡ deliveries_in turns
  pub losses : r.losses ≡ losses_in turns

-- Draining ended so. Memory out of range is turned down with 1, and given back bit for bit.
abbrev pub DrainEnds : Splitting → (in-range : Bool) → Memory → Drained → Type 0
DrainEnds splits false memory r = r ≡ drained memory 1 0 0
DrainEnds splits true memory r = DrainedTo splits memory r
