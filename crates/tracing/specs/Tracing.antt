-- What the tracer's walk tells.
use Rattle.std.specs.Prelude.{ℕ, Result, Ok, Err, ◌+◌, ◌-◌, ◌<◌, ◌≡◌, get_or}
use Rattle.model.specs.Memory.{Network}
use Rattle.model.specs.Calls.{Traced, traced, hop_limit, follow}
use Rattle.rows.specs.declared.Row.{Row}
use Rattle.tracing.specs.declared.Walk.{Walk}
use Rattle.tracing.specs.declared.End.{End}
use Rattle.tracing.specs.declared.End.TheVariants.{Arrived, EmptyRow, HopsUsedUp}

-- "131 at t, 132 at an empty row, 133 after n−1 hops with neither".
abbrev pub number : End → ℕ
number Arrived = 131
number EmptyRow = 132
number HopsUsedUp = 133

-- What a walk to t will tell in the end.
unfoldable pub will_tell : Network → ℕ → Walk → Traced
will_tell net t w = follow (hop_limit net - w.hops) w.hops net w.at t

-- After one more turn: what the rest of it will tell, or what it told.
unfoldable pub tells : Network → ℕ → Walk → Result Walk End → Traced
tells net t w (Ok next) = will_tell net t next
tells net t w (Err end) = traced (number end) w.hops

-- One hop more, to the row's first entry.
pub record GoesOn (w : Walk) (row : Row) (limit : ℕ) (next : Walk) : Type 0 where
  pub filled : 0 < row.count
  pub below : w.hops < limit
  pub hops : next.hops ≡ w.hops + 1
  pub at : next.at ≡ get_or row.stations 0 0
