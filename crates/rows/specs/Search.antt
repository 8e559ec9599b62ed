-- The search for a station in a row (02, F-2).
use Rattle.std.specs.Prelude.{ℕ, ◌+◌, Bool, length, Option, Some, None, if◌then◌else◌}
use Rattle.base.specs.Lists.{some_in, index_of}
use Rattle.model.specs.Memory.{Row, Successor, names}

-- "it should end at the first entry that names the station": that entry's place, or the row's count if there is none.
unfoldable pub place_of : ℕ → Row → ℕ
place_of j r = index_of (names j) r

-- The place of the first entry that passes, None where none does.
unfoldable pub place_in : (Successor → Bool) → Row → Option ℕ
place_in f r = if some_in f r then Some (index_of f r) else None

-- The place of the first entry that names the station, None where none does.
abbrev pub found_at : ℕ → Row → Option ℕ
found_at j r = place_in (names j) r

-- "how many places it looked at: up to and with the hit, or the row's count if there is none".
unfoldable pub looked_at : ℕ → Row → ℕ
looked_at j r = if some_in (names j) r then place_of j r + 1 else length r
