-- Bytes that the console's own calls made (01, "The list in demand 3").
use Rattle.std.specs.Prelude.{ℕ, List}
use Rattle.label.specs.Label.{Splitting}
use Rattle.model.specs.Histories.{Made}
use Rattle.model.specs.Events.{running_by}
use Rattle.draining.specs.Draining.{Action, call, drain, events, opens}
use Rattle.layout.specs.Meaning.{stored_network}
use Rattle.console.specs.Console.{calling_by, Leaves, Ends}
use Rattle.console.specs.Draining.{DrainsBytes}

-- A call on these bytes, draining, or a run of events may end so, as its contract says, by a rule for splits: by `split` as this library's contracts
-- do, and by `mediant` as those of the library before 02's F-6 did.
abbrev pub LeavesBytes : Splitting → Action → (bytes : List ℕ) → (r : ℕ) → (bytes' : List ℕ) → Type 0
LeavesBytes splits (call c) bytes r bytes' = Ends bytes (calling_by splits c bytes) r bytes'
LeavesBytes splits drain bytes r bytes' = DrainsBytes splits bytes r bytes'
LeavesBytes splits (events kinds operands room) bytes r bytes' = Leaves bytes (running_by splits (stored_network bytes) kinds operands room) bytes'

-- An accepted Open and then a list of calls, draining and runs of events among them, each on the bytes that the one before left, made these bytes; up
-- to some place they split the old way.
abbrev pub MadeBytes : List ℕ → Type 0
MadeBytes bytes = Made opens LeavesBytes bytes
