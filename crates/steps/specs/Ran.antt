-- What a run of events leaves, and what it tells.
use Rattle.std.specs.Prelude.{ℕ, zero, suc, ◌+◌, ◌*◌, ◌<◌, ◌≡◌, Bool, true, false, List, length}
use Rattle.std.proofs.lemmas.List.Edits.{sets}
use Rattle.base.specs.Lists.{tabulate}
use Rattle.label.specs.Label.{split}
use Rattle.model.specs.Memory.{Network}
use Rattle.model.specs.Events.{event_at}
use Rattle.model.specs.Printout.{line_at}
use Rattle.network.specs.declared.Memory.{Memory}
use Rattle.network.specs.View.{view}
use Rattle.draining.specs.Draining.{Turn, deliveries_in, losses_in, Drained}
use Rattle.steps.specs.declared.Happened.{Happened}
use Rattle.steps.specs.declared.Run.{Run}
use Rattle.steps.specs.Happens.{Happens}
use Rattle.telling.specs.Lines.{packed, Fits}

-- After i events from this memory the memory is `last`: each event has happened on the memory that the one before left.
unfoldable pub Ran : Memory → (kinds operands : List ℕ) → (i : ℕ) → (last : Memory) → Type 0
Ran memory kinds operands zero last = last ≡ memory
Ran memory kinds operands (suc i) last =
    (before : Memory) × (r : Happened) × Ran memory kinds operands i before × Happens before (event_at kinds operands i) r × (last ≡ r.memory)

-- What event j of a run from this network tells: its line, but for its index, kind and operands.
unfoldable pub told : (net : Network) (kinds operands : List ℕ) → (j : ℕ) → ℕ
told net kinds operands j = let l = line_at net kinds operands j in packed l.answer l.sent l.air l.hops

-- The numbers of the first i lines fit their places.
unfoldable pub ToldFit : (net : Network) (kinds operands : List ℕ) → (i : ℕ) → Type 0
ToldFit net kinds operands i = (j : ℕ) → j < i → let l = line_at net kinds operands j in Fits l.answer l.sent l.air l.hops

-- The events of a list have happened, and the lent array tells of them.
pub record RanList (memory : Memory) (kinds operands lines lines' : List ℕ) (r : Run) : Type 0 where
  pub ran : Ran memory kinds operands (length kinds) r.memory
  pub fit : ToldFit (view memory) kinds operands (length kinds)
  pub told-are : lines' ≡ sets lines 0 (tabulate (length kinds) (told (view memory) kinds operands))

-- The air is drained. A packet lost is two events: Deliver, which was turned down, and Lose.
pub record RanDrain (memory : Memory) (r : Run) : Type 0 where
  pub turns : List Turn
  pub drained : Drained split (view memory) turns (view r.memory)
  pub losses : r.losses ≡ losses_in turns
  pub events : r.events ≡ deliveries_in turns + 2 * losses_in turns

-- A run ended so.
abbrev pub RunEnds : (drains : Bool) → Memory → (kinds operands lines lines' : List ℕ) → Run → Type 0
RunEnds false memory kinds operands lines lines' r = RanList memory kinds operands lines lines' r
RunEnds true memory kinds operands lines lines' r = RanDrain memory r
