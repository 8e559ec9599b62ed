-- A row read as the model's. Free are the entries from `count` up, which have no part in the reading. A count over the limit is read as a list
-- that long, so that a row out of range is read as a row out of range.
use Rattle.std.specs.Prelude.{ℕ, ◌≤◌, ◌≡◌, ◌≢◌, true, [], get_or}
use Rattle.base.specs.Lists.{tabulate, distinct}
use Rattle.label.specs.declared.Label.{Label}
use Rattle.label.specs.Label.{label}
use Rattle.model.specs.Memory as model
use Rattle.model.specs.Memory.{stations, row_limit}
use Rattle.rows.specs.declared.Successor.{Successor}
use Rattle.rows.specs.declared.Row.{Row}

-- What stands for a read past an array's end, which no code makes.
abbrev pub zero_row : Row
zero_row = record { labels = []; serials = []; stations = []; count = 0 }

-- A successor: a station, the label that it advertised, and the serial number of its reply.
abbrev pub successor : (station : ℕ) → Label → (serial : ℕ) → model.Successor
successor station label serial = record { station = station; label = label; serial = serial }

abbrev pub successor_of : Successor → model.Successor
successor_of e = successor e.station e.label e.serial

-- Entry k of a row.
unfoldable pub entry_of : Row → ℕ → model.Successor
entry_of row k = successor (get_or row.stations k 0) (get_or row.labels k (label 0 0 0)) (get_or row.serials k 0)

unfoldable pub row_of : Row → model.Row
row_of row = tabulate row.count (entry_of row)

-- Entry k of the row is written, and nothing else is changed.
pub record Written (row : Row) (k : ℕ) (e : model.Successor) (next : Row) : Type 0 where
  pub count_same : next.count ≡ row.count
  pub here : entry_of next k ≡ e
  pub elsewhere : (j : ℕ) → j ≢ k → entry_of next j ≡ entry_of row j

-- A row of memory in range: "every count is within its limit", "no row names .. a station twice".
pub record NamesOnce (row : Row) : Type 0 where
  pub short : row.count ≤ row_limit
  pub once : distinct (stations (row_of row)) ≡ true
