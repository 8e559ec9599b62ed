-- The tally of the code, read as the model's.
use Rattle.std.specs.Prelude.{ℕ, ◌+◌, ◌<◌, max, List, get_or}
use Rattle.model.specs.Printout.{Line}
use Rattle.model.specs.Tally as model
use Rattle.telling.specs.declared.tally.Tally.{Tally}
use Rattle.telling.specs.Lines.{Packs}

abbrev pub tally_in : Tally → model.Tally
tally_in t = model.tally t.calls t.highest

-- One event more, after which so many packets are in the air.
unfoldable pub with_event : Tally → (air : ℕ) → Tally
with_event t air = record { calls = t.calls + 1; highest = max t.highest air }

-- The first numbers of the array, so many of them, tell these lines.
unfoldable pub Told : (lines : List ℕ) → (count : ℕ) → (line : ℕ → Line) → Type 0
Told lines count line = (j : ℕ) → j < count → Packs (get_or lines j 0) (line j).answer (line j).sent (line j).air (line j).hops
