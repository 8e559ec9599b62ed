-- Demand 3 of memory by value: memory that the sandbox's own calls made (01, "The list in demand 3").
use Rattle.std.specs.Prelude.{ℕ, ◌<◌, ◌≢◌}
use Rattle.label.specs.Label.{Splitting}
use Rattle.model.specs.Memory.{memory_in_range}
use Rattle.model.specs.Calls.{step_by, Traced}
use Rattle.model.specs.Events.{running_by}
use Rattle.model.specs.Walks.{WalksEnd}
use Rattle.model.specs.Histories.{Made}
use Rattle.draining.specs.Draining.{Action, call, drain, events, opens}
use Rattle.network.specs.declared.Memory.{Memory}
use Rattle.network.specs.View.{view}
use Rattle.steps.specs.Called.{done, Called}
use Rattle.steps.specs.Drained.{drained, DrainEnds}

-- A call on this memory, draining it, or a run of events on it may end so, as its contract says, by a rule for splits: by `split` as this library's
-- contracts do, and by `mediant` as those of the library before 02's F-6 did.
abbrev pub LeavesMemory : Splitting → Action → (memory : Memory) → (answer : ℕ) → (next : Memory) → Type 0
LeavesMemory splits (call c) memory answer next = (sent : ℕ) × Called memory (step_by splits c (view memory)) (done next answer sent)
LeavesMemory splits (events kinds operands room) memory answer next = Called memory (running_by splits (view memory) kinds operands room) (done next answer 0)
LeavesMemory splits drain memory answer next =
    (deliveries losses : ℕ) × DrainEnds splits (memory_in_range (view memory)) memory (drained next answer deliveries losses)

-- An accepted Open and then a list of calls, draining and runs of events among them, each on the memory that the one before gave back, made this
-- memory; up to some place they split the old way.
abbrev pub MadeMemory : Memory → Type 0
MadeMemory memory = Made opens LeavesMemory memory

-- What demand 3 asks of the walks from a for t in this memory, and of what was told of the tracer's own.
unfoldable pub WalksEndIn : Memory → (a t : ℕ) → Traced → Type 0
WalksEndIn memory a t told = a < memory.n → t < memory.n → a ≢ t → WalksEnd (view memory) a t told
