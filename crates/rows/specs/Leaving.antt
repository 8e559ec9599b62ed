-- The entries that leave a row with a station.
use Rattle.std.specs.Prelude.{ℕ, Bool, if◌then◌else◌}
use Rattle.model.specs.Memory.{Successor, names}
use Rattle.model.specs.Calls.{withdrawn}

-- All that name j, as at Down, or those that an error of this serial number takes out.
unfoldable pub leaving : (all : Bool) (j serial : ℕ) → Successor → Bool
leaving all j serial = if all then names j else withdrawn j serial
